use Rattle.std.proofs.Common.{◌≡◌, ◌≤◌, ◌+◌, map, filter, length, drop, ◌++◌, vec_len, vec_capacity}
use Rattle.tr_model.specs.declared.fates.Fate.TheVariants.{Flushed}
use Rattle.tr_model.specs.Moves.{ending_of}
use Rattle.tr_queues.specs.Changes.{is_picked}
use Rattle.tr_queues.specs.Slots.{standing}
use Rattle.tr_queues.proofs.picked.log_picked.Given as goal

abbrev pub invariant-loop-slot : goal.invariant-loop-slot
invariant-loop-slot l =
    (l.ended.items ++ map (ending_of Flushed) (filter (is_picked l.threads l.picked) (standing (drop l.slot-index l.slots))) ≡ l.fn.ended.items ++ map (ending_of Flushed) (filter (is_picked l.threads l.picked) (standing l.slots)))
    × (vec_len l.ended + length (filter (is_picked l.threads l.picked) (standing (drop l.slot-index l.slots))) ≡ vec_len l.fn.ended + length (filter (is_picked l.threads l.picked) (standing l.slots)))
    × (vec_len l.ended + length (standing (drop l.slot-index l.slots)) ≤ vec_capacity l.ended)
    × (vec_capacity l.ended ≡ vec_capacity l.fn.ended)
