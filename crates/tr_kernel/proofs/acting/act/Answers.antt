use Rattle.std.proofs.Common.{◌≡◌, ◌∙◌, Ok, ap, sym}
use Rattle.tr_model.specs.declared.checked.Checked.TheVariants.{Due}
use Rattle.tr_model.specs.Preferred.{check}
use Rattle.tr_kernel.proofs.Acts.{permits_where_due}
use Rattle.tr_kernel.proofs.acting.act.Goals as goal

pub act_with-requires : goal.act_with-requires
act_with-requires c =
    let due : check c.args.step.now.work.table c.args.actor c.args.event.now ≡ Ok (Due c.in-Due.choice) =
    ap (λ T. check T c.args.actor c.args.event.now) (sym c.table.ensures) ∙ sym c.check.ensures ∙ c.in-Ok.is ∙ ap (λ x. Ok x) c.in-Due.is in
    record { due = permits_where_due c.args.step.now.work.table c.args.actor c.args.event.now c.in-Due.choice c.requires due }
