use Rattle.std.proofs.Common.{◌≡◌, ◌≤◌, ◌+◌, map, filter, length, drop, ◌++◌, vec_len, vec_capacity}
use Rattle.tr_model.specs.declared.rows.Waiting.{Waiting}
use Rattle.tr_queues.specs.Changes.{is_picked}
use Rattle.tr_queues.specs.Slots.{standing}
use Rattle.tr_queues.proofs.picked.note_picked.Given as goal

abbrev pub invariant-loop-slot : goal.invariant-loop-slot
invariant-loop-slot l =
    (l.count + length (filter (is_picked l.threads l.picked) (standing (drop l.slot-index l.slots))) ≡ length (filter (is_picked l.threads l.picked) (standing l.slots)))
    × (l.count ≤ l.slot-index)
    × (l.gone.items ++ map (λ (q : Waiting). q.instance.n) (filter (is_picked l.threads l.picked) (standing (drop l.slot-index l.slots))) ≡ l.fn.gone.items ++ map (λ (q : Waiting). q.instance.n) (filter (is_picked l.threads l.picked) (standing l.slots)))
    × (vec_len l.gone + length (standing (drop l.slot-index l.slots)) ≤ vec_capacity l.gone)
    × (vec_capacity l.gone ≡ vec_capacity l.fn.gone)
