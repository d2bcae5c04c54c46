-- How a marked thread stops: "Group-stop" and "PTRACE_EVENT stops" of ptrace(2).
use Rattle.std.specs.Prelude.{ℕ, Option, Some, None, if◌then◌else◌}
use Rattle.tr_wait.specs.declared.status.StopSig.TheVariants as stop_sig
use Rattle.tr_wait.specs.Words.{stop_sig_of}
use Rattle.tr_tracee.specs.declared.life.Stop.TheVariants as stop
use Rattle.tr_tracee.specs.declared.thread.Thread.{Thread}
use Rattle.tr_tracee.specs.Lives.{is_stopped}
use Rattle.tr_tracee.specs.Marks.{joining, stopped}
use Rattle.tr_tracee.specs.Threads.{at_thread, is_traced, seized}
use Rattle.tr_model.specs.Tables.{stop_in_effect}
use Rattle.tr_model.specs.Moves.{Work, alter, at, enter, when}

-- with the signal of the group-stop in effect
abbrev pub at_stop : Option ℕ → (ℕ → Work → Work) → Work → Work
at_stop None move w = w
at_stop (Some s) move w = move s w

-- an attached tracee shows a group-stop as a stop by its signal, a seized one as an event stop
abbrev pub stop_with : Thread → ℕ → Work → Work
stop_with t s w = enter t.id (if seized t.trace then stop.Event (stop_sig_of s) else stop.Group s) w

-- the stop mark is served
abbrev pub halt : Thread → Work → Work
halt t w =
    if is_traced t
    then at_stop (stop_in_effect w.table t.group) (stop_with t) (alter (at_thread t.id joining) w)
    else alter (at_thread t.id stopped) (alter (at_thread t.id joining) w)

-- the trap or the note mark is served; in a group-stop the thread then takes part in it
abbrev pub trap_at : Thread → Option ℕ → Work → Work
trap_at t None w = enter t.id (stop.Event stop_sig.Trap) w
trap_at t (Some s) w = enter t.id (stop.Event (stop_sig_of s)) (alter (at_thread t.id joining) w)

-- PTRACE_EVENT_STOP shows the signal of the group-stop in effect, or SIGTRAP where there is none
abbrev pub trap : Thread → Work → Work
trap t w = trap_at t (stop_in_effect w.table t.group) w

-- the thread enters the stop of the group-stop in effect, attached or seized as it is now
abbrev pub show : Thread → Work → Work
show t w = at t.id (λ u. at_stop (stop_in_effect w.table t.group) (stop_with u)) w

-- a stopped thread that is traced from now on is in the stop of its kind
abbrev pub show_stop : Thread → Work → Work
show_stop t w = when (is_stopped t.life) (show t) w
