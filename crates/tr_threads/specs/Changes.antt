-- What happens to one thread's record.
use Rattle.std.specs.Prelude.{Bool, if◌then◌else◌}
use Rattle.tr_tracee.specs.declared.thread.Thread.{Thread}
use Rattle.tr_tracee.specs.Ends.{begun_to_leave, begun_to_leave_by_exec, dead, execed, execing, leaving, released, unmarked}
use Rattle.tr_tracee.specs.Marks.{cont_noted, continued, joining, marked, masked, noted, paused, stopped}
use Rattle.tr_tracee.specs.Stops.{entered_as, interrupted, listening, reported, restarted, set_options, traced_by, untraced, without_report}
use Rattle.tr_threads.specs.declared.thread_changes.ThreadChange.{ThreadChange}
use Rattle.tr_threads.specs.declared.thread_changes.ThreadChange.TheVariants as thread

-- SIGCONT: its signal-delivery-stop notes it, then comes the note mark, and where a group-stop is in effect the end of the
-- thread's part in it
abbrev pub continued_by : Bool → Thread → Thread
continued_by in_effect t = if in_effect then continued (noted (cont_noted t)) else noted (cont_noted t)

-- what the change makes of one thread's record
abbrev pub thread_changed_by : ThreadChange → Thread → Thread
thread_changed_by (thread.Mask set) t = masked set t
thread_changed_by (thread.Pausing p) t = paused p t
thread_changed_by thread.Mark t = marked t
thread_changed_by thread.Join t = joining t
thread_changed_by thread.Halt t = stopped (joining t)
thread_changed_by thread.Unmark t = unmarked t
thread_changed_by (thread.Continue in_effect) t = continued_by in_effect t
thread_changed_by (thread.Enter s n) t = entered_as n s t
thread_changed_by (thread.Report n s) t = reported n s t
thread_changed_by thread.WithdrawReport t = without_report t
thread_changed_by thread.Restart t = restarted t
thread_changed_by thread.Listen t = listening t
thread_changed_by (thread.TraceBy r) t = traced_by r t
thread_changed_by (thread.SetOptions o) t = set_options o t
thread_changed_by thread.Interrupt t = interrupted t
thread_changed_by (thread.Detach in_effect) t = untraced in_effect t
thread_changed_by thread.BeginExec t = execing t
thread_changed_by thread.EndExec t = execed t
thread_changed_by (thread.Leave e) t = leaving e t
thread_changed_by (thread.BeginToLeave kill e) t = begun_to_leave kill e t
thread_changed_by (thread.LeaveForExec id e) t = begun_to_leave_by_exec id e t
thread_changed_by thread.Die t = dead t
thread_changed_by thread.Release t = released t
