use Rattle.std.proofs.Common.{◌≡◌, Ok, Err, refl, sym, ap, ◌∙◌, subst}
use Rattle.tr_model.specs.declared.checked.Checked.TheVariants.{Due, Quiet}
use Rattle.tr_model.specs.Preferred.{check}
use Rattle.tr_kernel.specs.States.{IsHistory, State}
use Rattle.tr_kernel.proofs.Checks.{quiets}
use Rattle.tr_kernel.proofs.Histories.{permits}
use Rattle.tr_kernel.proofs.Refusals.{refusal, withheld}
use Rattle.tr_kernel.proofs.kernels.Kernel.call_logged.Goals as goal

pub returns-in-Err-clause-refused : goal.returns-in-Err-clause-refused
returns-in-Err-clause-refused c =
    refusal c.args.self.now c.args.actor c.args.event c.in-Err.why
    (subst (λ (k : State). check k.table c.args.actor c.args.event ≡ Err c.in-Err.why) c.self.view_is (ap (λ U. check U c.args.actor c.args.event) (sym c.table.ensures) ∙ sym c.in-Err.ensures))

pub enter_logged-requires-clause-admitted : goal.enter_logged-requires-clause-admitted
enter_logged-requires-clause-admitted c =
    let due = subst (λ (k : State). check k.table c.args.actor c.args.event ≡ Ok (Due c.in-Due.choice)) c.self.view_is (ap (λ U. check U c.args.actor c.args.event) (sym c.table.ensures) ∙ sym c.check.ensures ∙ c.in-Ok.is ∙ ap (λ x. Ok x) c.in-Due.is) in
    permits c.args.self.now c.args.actor c.args.event c.in-Due.choice (subst IsHistory c.self.view_is c.self.invariant.0) due

pub returns-in-Quiet-clause-read : goal.returns-in-Quiet-clause-read
returns-in-Quiet-clause-read c =
    let q = quiets c.args.self.now.table c.args.actor c.args.event c.in-Quiet.reply
    (subst (λ (k : State). check k.table c.args.actor c.args.event ≡ Ok (Quiet c.in-Quiet.reply)) c.self.view_is (ap (λ U. check U c.args.actor c.args.event) (sym c.table.ensures) ∙ sym c.check.ensures ∙ c.in-Ok.is ∙ ap (λ x. Ok x) c.in-Quiet.is)) in
    record { no_cause = q.0; quiet = q.1; same = refl }

pub returns-in-Err-2-clause-refused : goal.returns-in-Err-2-clause-refused
returns-in-Err-2-clause-refused c =
    let due = subst (λ (k : State). check k.table c.args.actor c.args.event ≡ Ok (Due c.in-Due.choice)) c.self.view_is (ap (λ U. check U c.args.actor c.args.event) (sym c.table.ensures) ∙ sym c.check.ensures ∙ c.in-Ok.is ∙ ap (λ x. Ok x) c.in-Due.is) in
    withheld c.args.self.now c.args.actor c.args.event c.in-Due.choice c.in-Err-2.why due (rw c.in-Err-2.is at c.in_ok-receipt-in-Due.ensures.err)
