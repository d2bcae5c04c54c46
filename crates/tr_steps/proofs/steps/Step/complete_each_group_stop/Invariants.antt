use Rattle.std.proofs.Common.{◌≡◌, ◌+◌, ◌≤◌, length, take}
use Rattle.tr_model.specs.GroupStops.{complete_group_stop}
use Rattle.tr_model.specs.Moves.{each}
use Rattle.tr_table.specs.Changes.{tgids}
use Rattle.tr_steps.proofs.steps.Step.complete_each_group_stop.Given as goal

abbrev pub invariant-loop-i : goal.invariant-loop-i
invariant-loop-i v =
    (v.self.work ≡ each (take v.i (tgids v.fn.self.work.table)) complete_group_stop v.fn.self.work)
    × (tgids v.self.work.table ≡ tgids v.fn.self.work.table)
    × (length (tgids v.fn.self.work.table) ≤ v.self.room + v.i)
    × (v.count ≡ length (tgids v.fn.self.work.table))
    × (v.self.taken_from ≡ v.fn.self.taken_from)
