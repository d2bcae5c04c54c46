use Rattle.std.proofs.Common.{◌≡◌, ◌++◌, drop, map, take}
use Rattle.tr_queues.specs.Changes.{is_picked}
use Rattle.tr_queues.specs.Slots.{IsPending, without_picked}
use Rattle.tr_queues.proofs.pending.Pending.drop_picked.Given as goal

abbrev pub invariant-loop-place : goal.invariant-loop-place
invariant-loop-place l =
    IsPending l.self
    × (l.self.slots.items ≡ map (without_picked (is_picked l.threads l.picked)) (take l.place l.fn.self.slots.items) ++ drop l.place l.fn.self.slots.items)
    × (l.self.room ≡ l.fn.self.room)
