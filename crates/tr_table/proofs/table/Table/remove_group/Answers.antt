use Rattle.std.proofs.Common.{◌≡◌, ◌≤◌, ◌==◌, ◌||◌, Bool, ap, arith, filter, length, not}
use Rattle.std.specs.List.{list_any}
use Rattle.tr_tracee.specs.Threads.{in_group}
use Rattle.tr_model.specs.declared.rows.Group.{Group}
use Rattle.tr_model.proofs.Costs.{filter-le-length}
use Rattle.tr_table.proofs.Unsettling.{moved_gone}
use Rattle.tr_table.proofs.table.Table.remove_group.Goals as goal

pub invariant_of-self : goal.invariant_of-self
invariant_of-self c =
    let g = c.args.tgid in
    let ts = c.self.inside.threads in
    let xs = c.self.inside.groups in
    let p : Group → Bool = λ x. not (x.tgid == g) || list_any (in_group g) ts in
    let k : length c.drop_empty.new.self ≡ length (filter p xs) = ap length c.drop_empty.ensures.kept in
    let h : length (filter p xs) ≤ length xs = filter-le-length p xs in
    rw c.touch.ensures (record {
      roster = c.self.invariant.roster;
      few = omega (arith, k, h, c.self.invariant.few);
      ordered = c.self.invariant.ordered;
      settled = moved_gone c.self.inside.telling.numbers _ g c.self.inside.unsettled (list_any (in_group g) ts) ts xs _ c.in-Some.place c.in-Some.ensures.kept c.in-Some.ensures.gone c.close_up.ensures.counted c.self.invariant.settled;
    })
