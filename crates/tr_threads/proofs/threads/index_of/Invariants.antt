use Rattle.std.proofs.Common.{◌≡◌, take}
use Rattle.tr_model.specs.Tables.{ids_of}
use Rattle.tr_threads.proofs.threads.index_of.Given as goal

abbrev pub invariant-loop-thread : goal.invariant-loop-thread
invariant-loop-thread l = l.index ≡ ids_of (take l.thread-index l.threads)
