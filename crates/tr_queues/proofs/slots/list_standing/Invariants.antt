use Rattle.std.proofs.Common.{◌≡◌, take}
use Rattle.tr_queues.specs.Slots.{standing}
use Rattle.tr_queues.proofs.slots.list_standing.Given as goal

abbrev pub invariant-loop-slot : goal.invariant-loop-slot
invariant-loop-slot l = l.list.items ≡ standing (take l.slot-index l.slots)
