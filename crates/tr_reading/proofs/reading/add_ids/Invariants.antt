use Rattle.std.proofs.Common.{◌≡◌, ◌++◌, map, take}
use Rattle.tr_reading.proofs.reading.add_ids.Given as goal

abbrev pub invariant-loop-thread : goal.invariant-loop-thread
invariant-loop-thread l = l.ids.items ≡ l.fn.ids.items ++ map (λ t. t.0) (take l.thread-index l.threads)
