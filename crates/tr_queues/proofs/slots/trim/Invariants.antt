use Rattle.std.proofs.Common.{◌≡◌, ◌≤◌, vec_len, vec_capacity}
use Rattle.tr_model.specs.Journals.{IsSorted}
use Rattle.tr_queues.specs.Slots.{all_in, standing}
use Rattle.tr_queues.proofs.slots.trim.Given as goal

abbrev pub invariant-loop-slots : goal.invariant-loop-slots
invariant-loop-slots l =
    (standing l.slots.items ≡ standing l.fn.slots.items)
    × (IsSorted (all_in l.fn.slots.items) → IsSorted (all_in l.slots.items))
    × (vec_len l.slots ≤ vec_len l.fn.slots)
    × (vec_capacity l.slots ≡ vec_capacity l.fn.slots)

abbrev pub decreases-loop-slots : goal.decreases-loop-slots
decreases-loop-slots l = vec_len l.slots
