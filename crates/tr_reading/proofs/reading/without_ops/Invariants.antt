use Rattle.std.proofs.Common.{◌≡◌, ◌+◌, drop, length, sum_by}
use Rattle.tr_reading.proofs.reading.without_ops.Given as goal

abbrev pub invariant-loop-thread : goal.invariant-loop-thread
invariant-loop-thread l = l.left + sum_by (λ s. length s.ops) l.threads ≡ l.number + sum_by (λ s. length s.ops) (drop l.thread-index l.threads)
