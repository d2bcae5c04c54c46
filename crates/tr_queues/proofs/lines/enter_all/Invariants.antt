use Rattle.std.proofs.Common.{◌≤◌, ◌+◌, length, take}
use Rattle.indexmap.specs.IndexMap.{index_map_len, spare}
use Rattle.tr_queues.specs.Lines.{AreLines}
use Rattle.tr_queues.specs.Slots.{standing}
use Rattle.tr_queues.proofs.lines.enter_all.Given as goal

abbrev pub invariant-loop-slot : goal.invariant-loop-slot
invariant-loop-slot l =
    AreLines l.lines l.queues (standing (take l.slot-index l.slots))
    × (index_map_len l.fn.lines + spare l.fn.lines ≤ spare l.lines + length (standing (take l.slot-index l.slots)))
    × (index_map_len l.fn.queues + spare l.fn.queues ≤ spare l.queues + length (standing (take l.slot-index l.slots)))
    × (index_map_len l.fn.lines + spare l.fn.lines ≤ index_map_len l.lines + spare l.lines)
    × (index_map_len l.fn.queues + spare l.fn.queues ≤ index_map_len l.queues + spare l.queues)
    × (index_map_len l.lines ≤ length (standing (take l.slot-index l.slots)))
