use Rattle.std.proofs.lemmas.List.{length-map}
use Rattle.tr_model.specs.Moves.{only_group}
use Rattle.tr_table.specs.Changes.{group_changed_by}
use Rattle.tr_table.proofs.GroupLists.{same_tgid}
use Rattle.tr_table.proofs.Unsettling.{moved_changed}
use Rattle.tr_table.proofs.table.Table.change_group.Goals as goal

pub invariant_of-self : goal.invariant_of-self
invariant_of-self c =
    let g = c.args.tgid in
    let f = group_changed_by c.args.change.now in
    let ts = c.self.inside.threads in
    let xs = c.self.inside.groups in
    rw (c.change.ensures, c.touch.ensures) (record {
      roster = c.self.invariant.roster;
      few = rw (length-map xs (only_group g f)) c.self.invariant.few;
      ordered = c.self.invariant.ordered;
      settled = moved_changed _ g c.self.inside.unsettled f ts xs c.self.invariant.settled (same_tgid c.args.change.now);
    })
