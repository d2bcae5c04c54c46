-- Restarts, and the end of tracing by a request: ptrace(2).
use Rattle.std.specs.Prelude.{ℕ, ◌==◌, pos, Option, Some, None, if◌then◌else◌, is_some, unwrap_or}
use Rattle.tr_sigset.specs.Sets.{has}
use Rattle.tr_pending.specs.declared.instance.Instance.{Instance}
use Rattle.tr_tracee.specs.declared.thread.Thread.{Thread}
use Rattle.tr_tracee.specs.Lives.{cont_came, held}
use Rattle.tr_tracee.specs.Stops.{listening, restarted, untraced}
use Rattle.tr_tracee.specs.Threads.{at_thread, tracer_of}
use Rattle.tr_model.specs.declared.fates.Fate.{Fate}
use Rattle.tr_model.specs.declared.fates.Fate.TheVariants.{Delivered, Suppressed, Flushed}
use Rattle.tr_model.specs.declared.rows.Target.TheVariants as target
use Rattle.tr_model.specs.Sends.{info, put}
use Rattle.tr_model.specs.Tables.{stop_in_effect}
use Rattle.tr_model.specs.Takes.{act_on}
use Rattle.tr_model.specs.Moves.{accept_as, alter, change_ending, Work}

-- out of its stop; what it held ends with this fate
abbrev pub resume : Fate → Thread → Work → Work
resume fate t w = change_ending fate restarted t w

-- a restart with another number than the one held: a new instance, from the tracer, or from 0 where there is none
abbrev pub inject : Thread → ℕ → Work → Work
inject t s w =
    if has t.mask s
    then put s (info (pos 0) (unwrap_or (tracer_of t.trace) 0) (pos 0)) (target.Thread t.id) w
    else act_on t s (cont_came t.life) (accept_as Delivered w)

-- PTRACE_CONT from a signal-delivery-stop: 0 suppresses the signal, its own number delivers it
abbrev pub restart_held : Thread → ℕ → Option Instance → Work → Work
restart_held t s None w = resume Flushed t w
restart_held t s (Some i) w =
    if s == 0 then resume Suppressed t w
    else if s == i.sig then act_on t s (cont_came t.life) (resume Delivered t w)
    else inject t s (resume Suppressed t w)

-- PTRACE_CONT: the number counts in a signal-delivery-stop alone, from every other stop it is ignored
abbrev pub restart : ℕ → Thread → Work → Work
restart s t w = restart_held t s (held t.life) w

-- PTRACE_LISTEN
abbrev pub listen : Thread → Work → Work
listen t w = change_ending Flushed listening t w

-- a thread in no ptrace-stop is untraced, and where a group-stop is in effect, stopped if it ran or listened
abbrev pub untrace : Thread → Work → Work
untrace t w = alter (at_thread t.id (untraced (is_some (stop_in_effect w.table t.group)))) w

-- PTRACE_DETACH: as a restart, and then nobody traces it
abbrev pub detach : ℕ → Thread → Work → Work
detach s t w = untrace t (restart s t w)
