use Rattle.std.proofs.Common.{length, take}
use Rattle.tr_threads.specs.Tracing.{HasPlaces, IsTracing}
use Rattle.tr_threads.proofs.threads.tracing_of.Given as goal

abbrev pub invariant-loop-thread : goal.invariant-loop-thread
invariant-loop-thread l = IsTracing (take l.thread-index l.threads) l.tracing × HasPlaces (length l.threads) l.tracing
