use Rattle.std.proofs.Common.{◌≡◌, ◌∙◌, Err, Ok, ap, subst, sym}
use Rattle.tr_model.specs.declared.checked.Checked.TheVariants.{Quiet}
use Rattle.tr_model.specs.Preferred.{check}
use Rattle.tr_kernel.specs.States.{State}
use Rattle.tr_kernel.proofs.Checks.{quiets, refusals}
use Rattle.tr_kernel.proofs.Heard.{heard_quiet, heard_refused}
use Rattle.tr_kernel.proofs.kernels.Kernel.hear.Goals as goal

pub returns-in-Err-clause-heard : goal.returns-in-Err-clause-heard
returns-in-Err-clause-heard c =
    let found = subst (λ (k : State). check k.table c.args.actor c.args.event ≡ Err c.in-Err.why) c.self.view_is (ap (λ U. check U c.args.actor c.args.event) (sym c.table.ensures) ∙ sym c.in-Err.ensures) in
    heard_refused c.args.self.now c.args.actor c.args.event c.args.told.now c.in-Err.why c.is_refusal.result (refusals c.args.self.now.table c.args.actor c.args.event c.in-Err.why found) c.is_refusal.ensures

pub returns-in-Quiet-clause-heard : goal.returns-in-Quiet-clause-heard
returns-in-Quiet-clause-heard c =
    let q = quiets c.args.self.now.table c.args.actor c.args.event c.in-Quiet.reply
    (subst (λ (k : State). check k.table c.args.actor c.args.event ≡ Ok (Quiet c.in-Quiet.reply)) c.self.view_is (ap (λ U. check U c.args.actor c.args.event) (sym c.table.ensures) ∙ sym c.check.ensures ∙ c.in-Ok.is ∙ ap (λ x. Ok x) c.in-Quiet.is)) in
    heard_quiet c.args.self.now c.args.actor c.args.event c.args.told.now c.in-Quiet.reply c.is_reply.result q.0 q.1 c.is_reply.ensures
