use Rattle.std.proofs.Common.{◌≡◌, ℕ, filter, take}
use Rattle.tr_tracee.specs.Threads.{in_group}
use Rattle.tr_threads.specs.Rosters.{roster_in, roster_of}
use Rattle.tr_threads.proofs.threads.rosters_of.Given as goal

abbrev pub invariant-loop-thread : goal.invariant-loop-thread
invariant-loop-thread l = (g : ℕ) → roster_in l.rosters g ≡ roster_of (filter (in_group g) (take l.thread-index l.threads))
