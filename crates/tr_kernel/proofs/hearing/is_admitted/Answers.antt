use Rattle.std.proofs.Common.{◌≡◌, ◌∙◌, ap, false, sym, true}
use Rattle.tr_kernel.specs.Private.{admits_told}
use Rattle.tr_kernel.proofs.Heard.{admitted_where, not_admitted}
use Rattle.tr_kernel.proofs.hearing.is_admitted.Goals as goal

pub returns-then-not-admits_told : goal.returns-then-not-admits_told
returns-then-not-admits_told c =
    let T = c.args.step.now.work.table in
    let h : admits_told T c.args.actor c.args.event.now c.args.told.now ≡ false = ap (λ U. admits_told U c.args.actor c.args.event.now c.args.told.now) (sym c.table.ensures) ∙ (sym c.admits_told.ensures ∙ c.if-not-admits_told.true) in
    not_admitted T c.args.actor c.args.event.now c.args.told.now c.requires.no_cause c.requires.not_quiet h

pub returns : goal.returns
returns c =
    let T = c.args.step.now.work.table in
    let h : admits_told T c.args.actor c.args.event.now c.args.told.now ≡ true = ap (λ U. admits_told U c.args.actor c.args.event.now c.args.told.now) (sym c.table.ensures) ∙ (sym c.admits_told.ensures ∙ c.if-not-admits_told.false) in
    admitted_where T c.args.actor c.args.event.now c.args.told.now c.choice_of.result c.is_reply_of_step.result c.choice_of.ensures c.requires.no_cause c.requires.not_quiet c.requires.numbered h c.is_reply_of_step.ensures
