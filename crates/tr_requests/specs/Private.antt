-- What private functions answer: no public contract cites these.
use Rattle.std.specs.Prelude.{Bool, None, Option, Some, if◌then◌else◌, not, pos, ℕ, ◌&&◌, ◌==◌}
use Rattle.tr_model.specs.Execs.{break_others, trap_new}
use Rattle.tr_model.specs.Moves.{Work, alter, enqueue, enter}
use Rattle.tr_model.specs.Restarts.{inject, resume, untrace}
use Rattle.tr_model.specs.Sends.{info, send}
use Rattle.tr_model.specs.Takes.{act_on}
use Rattle.tr_model.specs.declared.fates.Fate.TheVariants.{Delivered, Flushed, Suppressed}
use Rattle.tr_pending.specs.declared.instance.Instance.{Instance}
use Rattle.tr_tracee.specs.Ends.{execing}
use Rattle.tr_tracee.specs.Lives.{cont_came, held, is_dead}
use Rattle.tr_tracee.specs.Threads.{at_thread, is_tracee_of, options_of}
use Rattle.tr_tracee.specs.declared.thread.Thread.{Thread}
use Rattle.tr_model.specs.declared.rows.Target.TheVariants as target
use Rattle.tr_tracee.specs.declared.life.Stop.TheVariants as stop

-- Clones

-- a SIGSTOP in its own queue
abbrev pub stop_child : ℕ → Work → Work
stop_child id w = enqueue 19 (info (pos 0) 0 (pos 0)) (target.Thread id) w

-- Execve

-- SIGTRAP, by itself
abbrev pub send_trap : Thread → Work → Work
send_trap t w = send 5 (info (pos 0) t.id (pos 0)) (target.Thread t.id) w

-- with option exec its stop, else SIGTRAP for an attached tracee
abbrev pub stop_or_trap : ℕ → Thread → Work → Work
stop_or_trap former t w = if (options_of t.trace).exec then enter t.id (stop.Exec former) w else trap_new t w

-- the others begin to leave
abbrev pub wait_for_others : Thread → Work → Work
wait_for_others t w = alter (at_thread t.id execing) (break_others t.group t.id w)

-- Restarts, by the signal that the tracer gives: none for 0

-- from a signal-delivery-stop that holds the instance
abbrev pub restart_by : Thread → Option ℕ → Instance → Work → Work
restart_by t None i w = resume Suppressed t w
restart_by t (Some s) i w = if s == i.sig then act_on t s (cont_came t.life) (resume Delivered t w) else inject t s (resume Suppressed t w)

-- from a stop that holds this
abbrev pub restart_from : Thread → Option ℕ → Option Instance → Work → Work
restart_from t o None w = resume Flushed t w
restart_from t o (Some i) w = restart_by t o i w

-- the same, and then nobody traces it
abbrev pub detach_from : Thread → Option ℕ → Work → Work
detach_from t o w = untrace t (restart_from t o (held t.life) w)

-- The end of a tracer

-- a tracee of the actor with option exitkill that isn't dead
abbrev pub is_to_kill : ℕ → Thread → Bool
is_to_kill a t = is_tracee_of a t && ((options_of t.trace).exitkill && not (is_dead t.life))

-- Tracing

-- SIGSTOP, by the kernel
abbrev pub attach_sends : Thread → Work → Work
attach_sends t w = send 19 (info (pos 128) 0 (pos 0)) (target.Thread t.id) w
