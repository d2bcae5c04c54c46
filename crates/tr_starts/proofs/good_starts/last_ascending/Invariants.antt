use Rattle.std.proofs.Common.{◌≡◌, drop, map}
use Rattle.tr_starts.specs.Ascending.{last_ascending}
use Rattle.tr_starts.proofs.good_starts.last_ascending.Given as goal

abbrev pub invariant-loop-thread : goal.invariant-loop-thread
invariant-loop-thread l = last_ascending l.last (map (λ t. t.0) (drop l.thread-index l.threads)) ≡ last_ascending l.from (map (λ t. t.0) l.threads)
