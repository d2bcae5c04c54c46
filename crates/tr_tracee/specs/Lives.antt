-- What is read off a thread's life.
use Rattle.std.specs.Prelude.{ℕ, ◌/◌, ◌%◌, Bool, true, false, ◌&&◌, nat_le, Option, Some, None, if◌then◌else◌}
use Rattle.tr_pending.specs.declared.instance.Instance.{Instance}
use Rattle.tr_wait.specs.declared.status.Status.{Status}
use Rattle.tr_wait.specs.declared.status.Status.TheVariants as status
use Rattle.tr_tracee.specs.declared.life.End.{End}
use Rattle.tr_tracee.specs.declared.life.End.TheVariants.{Exited, Killed}
use Rattle.tr_tracee.specs.declared.life.Life.{Life}
use Rattle.tr_tracee.specs.declared.life.Life.TheVariants as life
use Rattle.tr_tracee.specs.declared.life.Stop.{Stop}
use Rattle.tr_tracee.specs.declared.life.Stop.TheVariants as stop

-- it runs, or waits in pause(2): no stop holds it
abbrev pub is_free : Life → Bool
is_free life.Free = true
is_free _ = false

-- a group-stop holds it, and nobody traces it
abbrev pub is_stopped : Life → Bool
is_stopped life.Stopped = true
is_stopped _ = false

-- it is in a ptrace-stop
abbrev pub is_in_stop : Life → Bool
is_in_stop (life.InStop s) = true
is_in_stop _ = false

-- it is in a PTRACE_EVENT_STOP
abbrev pub is_in_event_stop : Life → Bool
is_in_event_stop (life.InStop (stop.Event x)) = true
is_in_event_stop _ = false

-- it ends, and may have its exit stop before it
abbrev pub is_leaving : Life → Bool
is_leaving (life.Leaving e told) = true
is_leaving _ = false

-- it has ended: a zombie
abbrev pub is_dead : Life → Bool
is_dead (life.Dead e) = true
is_dead _ = false

-- it waits in execve(2) for the other threads of its group to die
abbrev pub is_execing : Life → Bool
is_execing life.Execing = true
is_execing _ = false

-- a thread that leaves, is dead or is in its exit stop isn't live
abbrev pub is_live : Life → Bool
is_live (life.Leaving e told) = false
is_live (life.Dead e) = false
is_live (life.InStop (stop.Exit w)) = false
is_live _ = true

-- told to leave, or dead
abbrev pub is_told : Life → Bool
is_told (life.Leaving e told) = told
is_told (life.Dead e) = true
is_told _ = false

-- it was told already, or is in its exit stop
abbrev pub was_told : Life → Bool
was_told (life.Leaving e told) = told
was_told (life.InStop (stop.Exit w)) = true
was_told _ = false

-- marks are served while it runs or listens
abbrev pub serves_marks : Life → Bool
serves_marks life.Free = true
serves_marks life.Listening = true
serves_marks _ = false

-- the instance that a signal-delivery-stop holds
abbrev pub held : Life → Option Instance
held (life.InStop (stop.Signal i came)) = Some i
held _ = None

-- a SIGCONT came during the signal-delivery-stop
abbrev pub cont_came : Life → Bool
cont_came (life.InStop (stop.Signal i came)) = came
cont_came _ = false

-- the stop is a PTRACE_EVENT_STOP
abbrev pub is_event_stop : Stop → Bool
is_event_stop (stop.Event x) = true
is_event_stop _ = false

-- PTRACE_GETEVENTMSG
abbrev pub message : Life → Option ℕ
message (life.InStop (stop.Clone n)) = Some n
message (life.InStop (stop.Exec n)) = Some n
message (life.InStop (stop.Exit n)) = Some n
message _ = None

-- the status of an end
abbrev pub status_of_end : End → Status
status_of_end (Exited code) = status.Exited code
status_of_end (Killed signal) = status.Killed signal

-- the end that an exit stop's word tells: a signal's number, or a code times 256
abbrev pub end_of_word : ℕ → End
end_of_word w = if nat_le 1 w && nat_le w 64 then Killed w else Exited (w / 256 % 256)

-- the status that entering a stop reports
abbrev pub status_of_stop : Stop → Status
status_of_stop (stop.Signal i came) = status.Stopped i.sig
status_of_stop (stop.Group s) = status.Stopped s
status_of_stop (stop.Clone n) = status.Clone
status_of_stop (stop.Exec n) = status.Exec
status_of_stop (stop.Exit w) = status.Exit
status_of_stop (stop.Event x) = status.EventStop x
