use Rattle.std.proofs.Common.{◌≡◌, ◌∙◌, Ok, ap, subst, sym}
use Rattle.tr_model.specs.declared.checked.Checked.TheVariants.{Due}
use Rattle.tr_model.specs.Preferred.{check}
use Rattle.tr_kernel.specs.States.{IsHistory, State}
use Rattle.tr_kernel.proofs.Histories.{permits}
use Rattle.tr_kernel.proofs.kernels.Kernel.prospect.Goals as goal

pub prospect_of_entry-requires : goal.prospect_of_entry-requires
prospect_of_entry-requires c =
    let due = subst (λ (k : State). check k.table c.args.actor c.args.event.now ≡ Ok (Due c.in-Due.choice)) c.self.view_is (ap (λ U. check U c.args.actor c.args.event.now) (sym c.table.ensures) ∙ sym c.check.ensures ∙ c.in-Ok.is ∙ ap (λ x. Ok x) c.in-Due.is) in
    record { due = permits c.args.self.now c.args.actor c.args.event.now c.in-Due.choice (subst IsHistory c.self.view_is c.self.invariant.0) due }
