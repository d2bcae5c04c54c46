use Rattle.std.proofs.Common.{◌≡◌, map, take, drop, ◌++◌}
use Rattle.tr_queues.specs.Slots.{retargeted_slot}
use Rattle.tr_queues.proofs.slots.retarget_each.Given as goal

abbrev pub invariant-loop-slot : goal.invariant-loop-slot
invariant-loop-slot l = l.slots ≡ map (retargeted_slot l.from l.to) (take l.slot-index l.fn.slots) ++ drop l.slot-index l.fn.slots
