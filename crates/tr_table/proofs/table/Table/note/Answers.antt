use Rattle.tr_model.proofs.Costs.{length-group_changed}
use Rattle.tr_table.proofs.Unsettling.{moved_first_changed}
use Rattle.tr_table.proofs.table.Table.note.Goals as goal

pub invariant_of-self : goal.invariant_of-self
invariant_of-self c =
    let g = c.args.tgid in
    let ts = c.self.inside.threads in
    let xs = c.self.inside.groups in
    rw (c.note.ensures, c.touch.ensures) (record {
      roster = c.self.invariant.roster;
      few = rw (length-group_changed _ _ _) c.self.invariant.few;
      ordered = c.self.invariant.ordered;
      settled = moved_first_changed _ g c.self.inside.unsettled _ ts xs c.self.invariant.settled (λ x e. e);
    })
