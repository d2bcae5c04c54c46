use Rattle.std.proofs.Common.{◌≡◌, drop, filter}
use Rattle.tr_queues.specs.Lines.{first_number}
use Rattle.tr_queues.specs.Queues.{is_one}
use Rattle.tr_queues.specs.Slots.{standing}
use Rattle.tr_queues.proofs.lines.first_of_line.Given as goal

abbrev pub invariant-loop-slot : goal.invariant-loop-slot
invariant-loop-slot l = first_number (filter (is_one l.target l.signal) (standing (drop l.slot-index l.slots))) ≡ first_number (filter (is_one l.target l.signal) (standing l.slots))
