-- What becomes of an accepted signal: kill(2), tgkill(2), sigqueue(3), and signal(7).
use Rattle.std.specs.Prelude.{ℕ, ◌-◌, zero, suc, ◌==◌, ℤ, List, [], ◌∷◌, Bool, false, not, ◌&&◌, Option, Some, None, if◌then◌else◌}
use Rattle.std.specs.List.{list_any}
use Rattle.tr_sigset.specs.Sets.{has}
use Rattle.tr_sigset.specs.Signals.{is_stop}
use Rattle.tr_pending.specs.declared.instance.Info.{Info}
use Rattle.tr_pending.specs.Waiting.{merges}
use Rattle.tr_tracee.specs.declared.thread.Thread.{Thread}
use Rattle.tr_tracee.specs.Lives.{is_live}
use Rattle.tr_tracee.specs.Marks.{cont_noted}
use Rattle.tr_tracee.specs.Threads.{at_group, is_traced}
use Rattle.tr_group.specs.declared.stops.Action.{Action}
use Rattle.tr_group.specs.Actions.{ignoring}
use Rattle.tr_model.specs.declared.fates.Fate.TheVariants.{Merged, Delivered, Flushed}
use Rattle.tr_model.specs.declared.rows.Group.{Group}
use Rattle.tr_model.specs.declared.rows.Target.{Target}
use Rattle.tr_model.specs.declared.rows.Target.TheVariants as target
use Rattle.tr_model.specs.Deaths.{kill_group}
use Rattle.tr_model.specs.GroupStops.{continue_all}
use Rattle.tr_model.specs.Tables.{Table, action_of, all_dead, has_live, has_traced, is_dying, members, owner, queue, thread_of}
use Rattle.tr_model.specs.Moves.{Work, accept_as, alter, end_waiting, enqueue, only_group, regroup, when}

-- what a taker is told of the signal: si_code, the sender as si_pid, and si_value
abbrev pub info : ℤ → ℕ → ℤ → Info
info code pid value = record { code = code; pid = pid; value = value }

-- SIGCONT is 18
abbrev pub is_cont : ℕ → Bool
is_cont s = s == 18

-- instances of these signals in all queues of the group are flushed
abbrev pub flush_in : ℕ → (ℕ → Bool) → Work → Work
flush_in g p w = end_waiting Flushed (λ q. p q.instance.sig && owner w.table q.target == g) w

-- First: KILL is delivered at once, whichever thread it aims at; a group whose threads are all dead flushes it.

-- unless all its threads are dead the group's death begins, also in a dying group; KILL is never pending
abbrev pub send_kill : ℕ → Work → Work
send_kill g w = if all_dead w.table g then accept_as Flushed w else kill_group g (accept_as Delivered w)

-- Second: in a dying group, or at what isn't live, it is flushed.

-- the thread is in the table, and neither leaving, dead nor in its exit stop
abbrev pub is_live_thread : Option Thread → Bool
is_live_thread None = false
is_live_thread (Some t) = is_live t.life

-- the thread, or some thread of the group, is live, and the group isn't dying
abbrev pub is_reachable : Table → Target → Bool
is_reachable T (target.Thread id) = is_live_thread (thread_of T id) && not (is_dying T (owner T (target.Thread id)))
is_reachable T (target.Group g) = has_live T g && not (is_dying T g)

-- Third: a stop signal flushes SIGCONT; SIGCONT flushes stop signals and continues the group, even where it is blocked,
-- ignored or caught.

-- stop signals are flushed, each signal-delivery-stop notes that SIGCONT came, and the group continues
abbrev pub continue_by_signal : ℕ → Work → Work
continue_by_signal g w = continue_all g (alter (at_group g cont_noted) (flush_in g is_stop w))

-- even if ignored or merged itself, a stop signal flushes SIGCONT, and SIGCONT stop signals, in all the group's queues
abbrev pub before_send : ℕ → ℕ → Work → Work
before_send s g w = if is_stop s then flush_in g is_cont w else when (is_cont s) (continue_by_signal g) w

-- Fourth: where the action ignores it, it is flushed if nobody there is traced or blocks it.

-- the thread is in the table, untraced, and doesn't block the signal
abbrev pub is_open_thread : ℕ → Option Thread → Bool
is_open_thread s None = false
is_open_thread s (Some t) = not (is_traced t) && not (has t.mask s)

-- nobody there has a tracer or blocks it; of a group dead tracees count too, but only the masks of live threads
abbrev pub is_open : Table → ℕ → Target → Bool
is_open T s (target.Thread id) = is_open_thread s (thread_of T id)
is_open T s (target.Group g) = not (has_traced T g) && not (list_any (λ t. is_live t.life && has t.mask s) (members T g))

-- the group's action ignores the signal, no tracer has to see it, and no mask blocks it
abbrev pub is_ignored : Table → ℕ → Target → Bool
is_ignored T s q = ignoring (action_of T (owner T q) s) s && is_open T s q

-- Fifth: a standard signal that waits in the same queue already merges. Sixth: else it is pending.

-- merged where a standard signal waits in this queue already, else the last of the queue
abbrev pub put : ℕ → Info → Target → Work → Work
put s i q w = if merges s (queue w.table q) then accept_as Merged w else enqueue s i q w

-- an ignored signal is flushed at once, and doesn't wait
abbrev pub put_unless_ignored : ℕ → Info → Target → Work → Work
put_unless_ignored s i q w = if is_ignored w.table s q then accept_as Flushed w else put s i q w

-- any signal but KILL; one that reaches nobody is flushed, and itself flushes and continues nothing
abbrev pub send_other : ℕ → Info → Target → Work → Work
send_other s i q w = if is_reachable w.table q then put_unless_ignored s i q (before_send s (owner w.table q) w) else accept_as Flushed w

-- the rules in their order
abbrev pub send : ℕ → Info → Target → Work → Work
send s i q w = if s == 9 then send_kill (owner w.table q) w else send_other s i q w

-- sigaction(2): a new action that ignores flushes what waits of that signal in the group's queues

-- another action at the place, counted from 0; a place past the end changes nothing
abbrev pub set_at : ℕ → Action → List Action → List Action
set_at k how [] = []
set_at zero how (x ∷ xs) = how ∷ xs
set_at (suc k) how (x ∷ xs) = x ∷ set_at k how xs

-- the group's action of the signal; that of signal 1 has the first place
abbrev pub with_action : ℕ → Action → Group → Group
with_action s how x = record x { actions = set_at (s - 1) how x.actions }

-- the action counts for the whole thread group; one that ignores flushes the signal in all its queues, blocked or not
abbrev pub set_action : ℕ → Action → Thread → Work → Work
set_action s how t w = when (ignoring how s) (flush_in t.group (λ n. n == s)) (regroup (only_group t.group (with_action s how)) w)
