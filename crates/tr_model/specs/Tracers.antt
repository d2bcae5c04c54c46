-- The end of a tracer, and what it leaves its tracees as: ptrace(2).
use Rattle.std.specs.Prelude.{ℕ, List, not, ◌&&◌, Option, Some, None, if◌then◌else◌, filter}
use Rattle.tr_pending.specs.declared.instance.Instance.{Instance}
use Rattle.tr_tracee.specs.declared.thread.Thread.{Thread}
use Rattle.tr_tracee.specs.Lives.{held, is_dead}
use Rattle.tr_tracee.specs.Threads.{is_leader, is_tracee_of, options_of}
use Rattle.tr_model.specs.declared.fates.Fate.TheVariants.{Delivered}
use Rattle.tr_model.specs.Deaths.{kill_group}
use Rattle.tr_model.specs.Ends.{pass_on, remove_thread}
use Rattle.tr_model.specs.Tables.{Table, ids_of}
use Rattle.tr_model.specs.Moves.{accept_as, at, each, when, Work}
use Rattle.tr_model.specs.Restarts.{detach}

-- the signal that a signal-delivery-stop holds, 0 for a thread that holds none
abbrev pub held_signal : Option Instance → ℕ
held_signal None = 0
held_signal (Some i) = i.sig

-- detached with what it holds; a dead thread is gone, but a leader stays for the starter
abbrev pub leave_tracer : Thread → Work → Work
leave_tracer t w =
    if is_dead t.life
    then if is_leader t then pass_on t t.report w else remove_thread t w
    else detach (held_signal (held t.life)) t w

-- only a thread that the actor still traces is left by it
abbrev pub lose_tracer : ℕ → Thread → Work → Work
lose_tracer a t w = when (is_tracee_of a t) (leave_tracer t) w

-- PTRACE_O_EXITKILL
abbrev pub exit_kill : Thread → Work → Work
exit_kill t w = kill_group t.group (accept_as Delivered w)

-- all tracees of the actor, in table order; dead ones that nobody has waited for are among them
abbrev pub tracees : Table → ℕ → List Thread
tracees T a = filter (is_tracee_of a) T.threads

-- the tracees with PTRACE_O_EXITKILL that aren't dead
abbrev pub to_kill : Table → ℕ → List Thread
to_kill T a = filter (λ t. (options_of t.trace).exitkill && not (is_dead t.life)) (tracees T a)

-- the end of a tracer: the KILLs first, then each tracee is left, in table order; tracees are gone through by id, so that
-- each is found as the moves before left it
abbrev pub tracer_exit : ℕ → Work → Work
tracer_exit a w =
    each (ids_of (tracees w.table a)) (λ id. at id (lose_tracer a))
    (each (ids_of (to_kill w.table a)) (λ id. at id exit_kill) w)
