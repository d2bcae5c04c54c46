use Rattle.std.proofs.Common.{◌≡◌, ◌≤◌, ◌+◌, flat_map, length, take, drop, ◌++◌, vec_len, vec_capacity}
use Rattle.tr_model.specs.Tables.{thread_in}
use Rattle.tr_threads.specs.Changes.{thread_changed_by}
use Rattle.tr_threads.specs.Kept.{ends_of}
use Rattle.tr_threads.proofs.Helds.{held_among}
use Rattle.tr_threads.proofs.threads.Threads.log_flushed.Given as goal

abbrev pub invariant-loop-member : goal.invariant-loop-member
invariant-loop-member l =
    (l.ended.items ≡ l.fn.ended.items ++ flat_map (λ n. ends_of (thread_changed_by l.change) (thread_in l.self n)) (take l.member-index l.member-items))
    × (vec_len l.ended ≡ vec_len l.fn.ended + length (flat_map (λ n. ends_of (thread_changed_by l.change) (thread_in l.self n)) (take l.member-index l.member-items)))
    × (vec_len l.ended + held_among l.self (drop l.member-index l.member-items) ≤ vec_capacity l.fn.ended)
    × (vec_capacity l.ended ≡ vec_capacity l.fn.ended)
