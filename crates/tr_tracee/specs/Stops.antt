-- Tracing, ptrace-stops and restarts of one thread: ptrace(2).
use Rattle.std.specs.Prelude.{ℕ, Bool, true, false, not, ◌&&◌, ◌||◌, Option, Some, None, if◌then◌else◌}
use Rattle.tr_wait.specs.declared.status.Status.{Status}
use Rattle.tr_tracee.specs.declared.life.Life.{Life}
use Rattle.tr_tracee.specs.declared.life.Life.TheVariants as life
use Rattle.tr_tracee.specs.declared.life.Stop.{Stop}
use Rattle.tr_tracee.specs.declared.life.Stop.TheVariants as stop
use Rattle.tr_tracee.specs.declared.thread.Options.{Options}
use Rattle.tr_tracee.specs.declared.thread.Thread.{Thread}
use Rattle.tr_tracee.specs.declared.thread.Trace.{Trace}
use Rattle.tr_tracee.specs.Lives.{is_event_stop, is_in_stop, serves_marks, status_of_stop, end_of_word}

-- Tracing

-- a trace that is there stays, else it is this one
abbrev pub or_else : Option Trace → Trace → Option Trace
or_else None r = Some r
or_else (Some old) r = Some old

-- PTRACE_ATTACH, PTRACE_SEIZE
abbrev pub traced_by : Trace → Thread → Thread
traced_by r t = record t { trace = or_else t.trace r; report = None }

-- the trace, if there is one, with these options
abbrev pub with_options : Options → Option Trace → Option Trace
with_options o None = None
with_options o (Some r) = Some (record r { options = o })

-- PTRACE_SETOPTIONS
abbrev pub set_options : Options → Thread → Thread
set_options o t = record t { trace = with_options o t.trace }

-- PTRACE_INTERRUPT
abbrev pub interrupted : Thread → Thread
interrupted t = record t { trap_mark = true }

-- Reports

-- its next report, with this number and status
abbrev pub reported : ℕ → Status → Thread → Thread
reported n s t = record t { report = Some (record { number = n; status = s }) }

-- its report is withdrawn, or a wait consumed it
abbrev pub without_report : Thread → Thread
without_report t = record t { report = None }

-- Entering

-- a thread that isn't in a stop, told to leave, dead or in execve(2) may enter a ptrace-stop
abbrev pub may_enter : Life → Bool
may_enter life.Free = true
may_enter life.Stopped = true
may_enter life.Listening = true
may_enter (life.Leaving e told) = not told
may_enter _ = false

-- entering a ptrace-stop clears the trap mark, and PTRACE_EVENT_STOP the note mark too
abbrev pub entered : Stop → Thread → Thread
entered s t = record t { life = life.InStop s; trap_mark = false; note_mark = t.note_mark && not (is_event_stop s) }

-- with its report
abbrev pub entered_as : ℕ → Stop → Thread → Thread
entered_as n s t = reported n (status_of_stop s) (entered s t)

-- Restarting

-- from its exit stop a thread leaves, from every other stop it is free
abbrev pub restarted_life : Life → Life
restarted_life (life.InStop (stop.Exit w)) = life.Leaving (end_of_word w) true
restarted_life (life.InStop s) = life.Free
restarted_life l = l

-- a stop of a group-stop: its restart takes the thread out of the group-stop
abbrev pub ends_part : Life → Bool
ends_part (life.InStop (stop.Group s)) = true
ends_part (life.InStop (stop.Event x)) = true
ends_part _ = false

-- PTRACE_CONT: an unconsumed report is withdrawn
abbrev pub restarted : Thread → Thread
restarted t = record t { life = restarted_life t.life; joined = t.joined && not (ends_part t.life); report = None }

-- a PTRACE_EVENT_STOP becomes listening
abbrev pub listening_life : Life → Life
listening_life (life.InStop (stop.Event x)) = life.Listening
listening_life l = l

-- PTRACE_LISTEN: it still takes part in the group-stop
abbrev pub listening : Thread → Thread
listening t = record t { life = listening_life t.life; report = None }

-- The end of tracing

-- with or without a group-stop in effect
abbrev pub untraced_life : Bool → Life → Life
untraced_life in_effect life.Free = if in_effect then life.Stopped else life.Free
untraced_life in_effect life.Listening = if in_effect then life.Stopped else life.Free
untraced_life in_effect (life.Leaving e told) = life.Leaving e true
untraced_life in_effect l = l

-- trace, trap mark and note mark go; where a group-stop is in effect a thread that serves marks is stopped and takes part
abbrev pub without_trace : Bool → Thread → Thread
without_trace in_effect t =
    record t {
      life = untraced_life in_effect t.life;
      trace = None;
      trap_mark = false;
      note_mark = false;
      stop_mark = t.stop_mark && not (in_effect && serves_marks t.life);
      joined = t.joined || (in_effect && serves_marks t.life);
      report = None;
    }

-- PTRACE_DETACH, once it is restarted: where a group-stop is in effect it is stopped and takes part
abbrev pub untraced : Bool → Thread → Thread
untraced in_effect t = if is_in_stop t.life then t else without_trace in_effect t
