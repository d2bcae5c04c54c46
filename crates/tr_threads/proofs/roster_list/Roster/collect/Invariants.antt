use Rattle.std.proofs.Common.{◌≡◌, filter, take}
use Rattle.tr_tracee.specs.Threads.{in_group}
use Rattle.tr_threads.specs.Rosters.{roster_of}
use Rattle.tr_threads.proofs.roster_list.Roster.collect.Given as goal

abbrev pub invariant-loop-thread : goal.invariant-loop-thread
invariant-loop-thread l = l.roster ≡ roster_of (filter (in_group l.tgid) (take l.thread-index l.threads))
