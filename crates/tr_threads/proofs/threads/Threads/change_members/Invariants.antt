use Rattle.std.proofs.Common.{◌≡◌, drop}
use Rattle.tr_threads.specs.Changes.{thread_changed_by}
use Rattle.tr_threads.proofs.ByIds.{changed_each}
use Rattle.tr_threads.proofs.threads.Threads.change_members.Given as goal

abbrev pub invariant-loop-member : goal.invariant-loop-member
invariant-loop-member l = changed_each (thread_changed_by l.change) (drop l.member-index l.member-items) l.self ≡ changed_each (thread_changed_by l.change) l.member-items l.fn.self
