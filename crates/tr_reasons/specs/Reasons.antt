-- Why an event is refused: of each cause of the model the condition that it comes from.
use Rattle.std.specs.Prelude.{◌≡◌, ℕ, List, [], ◌∷◌, ◌++◌, length, Bool, not, ◌&&◌, ◌||◌, ◌==◌, nat_lt, nat_le, Option, Some, None, if◌then◌else◌, is_some, map, option_map}
use Rattle.std.specs.List.{list_any}
use Rattle.tr_sigset.specs.Signals.{is_real_time}
use Rattle.tr_wait.specs.declared.waits.Which.{Which}
use Rattle.tr_wait.specs.Words.{asks_for}
use Rattle.tr_tracee.specs.declared.life.Life.{Life}
use Rattle.tr_tracee.specs.declared.life.Life.TheVariants as life
use Rattle.tr_tracee.specs.declared.life.Stop.TheVariants as stop
use Rattle.tr_tracee.specs.declared.thread.Thread.{Thread}
use Rattle.tr_tracee.specs.Lives.{is_execing, is_free, is_in_event_stop, is_in_stop, is_leaving, is_live, message, serves_marks}
use Rattle.tr_tracee.specs.Threads.{has_mark, is_traced, is_tracee_of, seized}
use Rattle.tr_model.specs.declared.events.Event.{Event}
use Rattle.tr_model.specs.declared.events.Event.TheVariants as event
use Rattle.tr_model.specs.declared.replies.Refusal.{Refusal}
use Rattle.tr_model.specs.declared.replies.Refusal.TheVariants.{Perm, Srch, Io, Child, Again, Inval, Busy, NotDue, NotRunning, Unmodelled}
use Rattle.tr_model.specs.Causes.{cause_of, causes}
use Rattle.tr_model.specs.StarterWaits.{led_groups}
use Rattle.tr_model.specs.Tables.{Table, group_of, is_dying, members, others_dead, thread_of}
use Rattle.tr_model.specs.Takes.{can_take, is_empty}
use Rattle.tr_model.specs.Tracers.{tracees}
use Rattle.tr_reasons.specs.declared.reasons.Reason.{Reason}
use Rattle.tr_reasons.specs.declared.reasons.Reason.TheVariants as reason

-- Reasons

-- the refusal that comes of it
abbrev pub refusal_of : Reason → Refusal
refusal_of (reason.NoThread id) = Srch
refusal_of (reason.NoGroup g) = Srch
refusal_of (reason.OfAnotherGroup id) = Srch
refusal_of (reason.NoSignal s) = Inval
refusal_of (reason.QueueFull limit) = Again
refusal_of (reason.NotRunning id) = NotRunning
refusal_of (reason.Pausing id) = NotRunning
refusal_of (reason.HasMark id) = Busy
refusal_of (reason.MayTake id) = Busy
refusal_of (reason.FixedAction s) = Inval
refusal_of reason.TableFull = Again
refusal_of (reason.GroupFull g) = Again
refusal_of (reason.NoGroupStop id) = NotDue
refusal_of (reason.NoTrap id) = NotDue
refusal_of (reason.NotServing id) = NotDue
refusal_of (reason.NotLeaving id) = NotDue
refusal_of (reason.NotExecing id) = NotDue
refusal_of (reason.OthersAlive id) = NotDue
refusal_of (reason.Traced id) = Perm
refusal_of (reason.Ended id) = Perm
refusal_of (reason.GroupEnding g) = Perm
refusal_of (reason.NotTracee id) = Srch
refusal_of (reason.TraceeEnded id) = Srch
refusal_of (reason.NotStopped id) = Srch
refusal_of (reason.NotSeized id) = Io
refusal_of (reason.NoEventStop id) = Io
refusal_of (reason.NoRestartSignal s) = Io
refusal_of (reason.NoMessage id) = Unmodelled
refusal_of (reason.InGroupStop id) = Inval
refusal_of (reason.NoDelivery id) = Unmodelled
refusal_of (reason.NoTracee a) = Child
refusal_of (reason.NotStarter a) = Child
refusal_of reason.NoChild = Child

-- the first reason that there is
abbrev pub first_reason : List (Option Reason) → Option Reason
first_reason [] = None
first_reason (None ∷ rest) = first_reason rest
first_reason (Some r ∷ rest) = Some r

-- a condition that has to hold, else this is the reason
abbrev pub unless : Bool → Reason → Option Reason
unless holds r = if holds then None else Some r

-- a condition that must not hold, else this is the reason
abbrev pub told_if : Bool → Reason → Option Reason
told_if holds r = if holds then Some r else None

-- where the first condition doesn't hold this is the reason, else the other
abbrev pub unless_then : Bool → Reason → Option Reason → Option Reason
unless_then holds r other = if holds then other else Some r

-- The reason of each guard

-- a number above 64
abbrev pub above_all_signals : ℕ → Option Reason
above_all_signals s = told_if (nat_lt 64 s) (reason.NoSignal s)

-- the group has to be there
abbrev pub group_missing : Table → ℕ → Option Reason
group_missing T g = unless (is_some (group_of T g)) (reason.NoGroup g)

-- the thread has to be there, and of this group
abbrev pub member_missing : ℕ → ℕ → Option Thread → Option Reason
member_missing g id None = Some (reason.NoThread id)
member_missing g id (Some t) = unless (t.group == g) (reason.OfAnotherGroup id)

-- a real-time signal beyond the queue limit
abbrev pub over_limit : Table → ℕ → Option Reason
over_limit T s = told_if (is_real_time s && nat_le T.limit (length T.waiting)) (reason.QueueFull T.limit)

-- a thread that isn't there is the only reason
abbrev pub thread_then : ℕ → Option Thread → (Thread → List (Option Reason)) → List (Option Reason)
thread_then id None reasons = Some (reason.NoThread id) ∷ []
thread_then id (Some t) reasons = reasons t

-- reasons that are asked of the thread with this id
abbrev pub with_thread : Table → ℕ → (Thread → List (Option Reason)) → List (Option Reason)
with_thread T id reasons = thread_then id (thread_of T id) reasons

-- it has to run
abbrev pub not_free : Thread → Option Reason
not_free t = unless (is_free t.life) (reason.NotRunning t.id)

-- it has to run, and not to wait in pause(2)
abbrev pub not_running : Thread → Option Reason
not_running t = unless_then (is_free t.life) (reason.NotRunning t.id) (told_if t.pausing (reason.Pausing t.id))

-- it has a mark to serve
abbrev pub marked : Thread → Option Reason
marked t = told_if (has_mark t) (reason.HasMark t.id)

-- it has a mark to serve, or a signal to take
abbrev pub busy : Table → Thread → Option Reason
busy T t = unless_then (not (has_mark t)) (reason.HasMark t.id) (told_if (can_take T t) (reason.MayTake t.id))

-- the reasons against a thread's own operation
abbrev pub own : Table → Thread → List (Option Reason)
own T t = not_running t ∷ busy T t ∷ []

-- no signal, or one whose action is fixed
abbrev pub action_fixed : ℕ → Option Reason
action_fixed s = told_if (s == 0 || s == 9 || s == 19 || nat_lt 64 s) (reason.FixedAction s)

-- no further thread fits
abbrev pub full : Table → Thread → Option Reason
full T t = unless_then (not (nat_le 1024 (length T.threads))) reason.TableFull (told_if (nat_le 64 (length (members T t.group))) (reason.GroupFull t.group))

-- it has to be asked for a group-stop, and to run or listen
abbrev pub no_halt : Thread → Option Reason
no_halt t = unless_then t.stop_mark (reason.NoGroupStop t.id) (unless (serves_marks t.life) (reason.NotServing t.id))

-- it has to be asked for a trap, and to run or listen
abbrev pub no_trap : Thread → Option Reason
no_trap t = unless_then (t.trap_mark || t.note_mark) (reason.NoTrap t.id) (unless (serves_marks t.life) (reason.NotServing t.id))

-- it has to be in execve(2), and the others of its group dead
abbrev pub not_last : Table → Thread → Option Reason
not_last T t = unless_then (is_execing t.life) (reason.NotExecing t.id) (unless (others_dead T t) (reason.OthersAlive t.id))

-- an untraced live thread of a group that isn't dying
abbrev pub not_traceable : Table → Thread → Option Reason
not_traceable T t = unless_then (not (is_traced t)) (reason.Traced t.id) (unless_then (is_live t.life) (reason.Ended t.id) (told_if (is_dying T t.group) (reason.GroupEnding t.group)))

-- a live tracee of the actor
abbrev pub no_live_tracee : ℕ → Thread → Option Reason
no_live_tracee a t = unless_then (is_tracee_of a t) (reason.NotTracee t.id) (unless (is_live t.life) (reason.TraceeEnded t.id))

-- a stopped tracee of the actor
abbrev pub no_stopped_tracee : ℕ → Thread → Option Reason
no_stopped_tracee a t = unless_then (is_tracee_of a t) (reason.NotTracee t.id) (unless (is_in_stop t.life) (reason.NotStopped t.id))

-- a number above 64 for a restart
abbrev pub no_restart : ℕ → Option Reason
no_restart s = told_if (nat_lt 64 s) (reason.NoRestartSignal s)

-- a seized tracee
abbrev pub not_seized : Thread → Option Reason
not_seized t = unless (seized t.trace) (reason.NotSeized t.id)

-- a seized tracee in an event stop
abbrev pub cannot_listen : Thread → Option Reason
cannot_listen t = unless_then (seized t.trace) (reason.NotSeized t.id) (unless (is_in_event_stop t.life) (reason.NoEventStop t.id))

-- a stop that has a message
abbrev pub no_message : Thread → Option Reason
no_message t = unless (is_some (message t.life)) (reason.NoMessage t.id)

-- a stop that holds a signal
abbrev pub no_siginfo : ℕ → Life → Option Reason
no_siginfo id (life.InStop (stop.Signal i came)) = None
no_siginfo id (life.InStop (stop.Group s)) = Some (reason.InGroupStop id)
no_siginfo id _ = Some (reason.NoDelivery id)

-- a tracee that the wait asks for
abbrev pub no_tracee : Table → ℕ → Which → Option Reason
no_tracee T a which = unless (list_any (λ t. asks_for which t.id) (tracees T a)) (reason.NoTracee a)

-- the starter, and a group that the wait asks for
abbrev pub no_child : Table → ℕ → Which → Option Reason
no_child T a which = unless_then (a == 1) (reason.NotStarter a) (told_if (is_empty (led_groups T which)) reason.NoChild)

-- The reasons of each event

-- guard for guard in the order of the model's causes
abbrev pub reasons_of : Table → ℕ → Event → List (Option Reason)
reasons_of T a (event.Kill g s) = above_all_signals s ∷ group_missing T g ∷ over_limit T s ∷ []
reasons_of T a (event.Tgkill g id s) = above_all_signals s ∷ member_missing g id (thread_of T id) ∷ over_limit T s ∷ []
reasons_of T a (event.Sigqueue g s v) = above_all_signals s ∷ group_missing T g ∷ over_limit T s ∷ []
reasons_of T a (event.Mask id set) = with_thread T id (own T)
reasons_of T a (event.SetAction id s how) = with_thread T id (λ t. own T t ++ action_fixed s ∷ [])
reasons_of T a (event.Pause id) = with_thread T id (own T)
reasons_of T a (event.Take id) = with_thread T id (λ t. not_free t ∷ marked t ∷ [])
reasons_of T a (event.TakeAny g) = group_missing T g ∷ []
reasons_of T a (event.Halt id) = with_thread T id (λ t. no_halt t ∷ [])
reasons_of T a (event.Trap id) = with_thread T id (λ t. no_trap t ∷ [])
reasons_of T a (event.Die id) = with_thread T id (λ t. unless (is_leaving t.life) (reason.NotLeaving t.id) ∷ [])
reasons_of T a (event.CloneThread id) = with_thread T id (λ t. own T t ++ full T t ∷ [])
reasons_of T a (event.Exec id) = with_thread T id (own T)
reasons_of T a (event.Finish id) = with_thread T id (λ t. not_last T t ∷ [])
reasons_of T a (event.Exit id code) = with_thread T id (own T)
reasons_of T a (event.ExitGroup id code) = with_thread T id (own T)
reasons_of T a (event.Attach id) = with_thread T id (λ t. not_traceable T t ∷ [])
reasons_of T a (event.Seize id o) = with_thread T id (λ t. not_traceable T t ∷ [])
reasons_of T a (event.Interrupt id) = with_thread T id (λ t. no_live_tracee a t ∷ not_seized t ∷ [])
reasons_of T a (event.Cont id s) = with_thread T id (λ t. no_stopped_tracee a t ∷ no_restart s ∷ [])
reasons_of T a (event.Listen id) = with_thread T id (λ t. no_stopped_tracee a t ∷ cannot_listen t ∷ [])
reasons_of T a (event.Detach id s) = with_thread T id (λ t. no_stopped_tracee a t ∷ no_restart s ∷ [])
reasons_of T a (event.SetOptions id o) = with_thread T id (λ t. no_stopped_tracee a t ∷ [])
reasons_of T a (event.EventMessage id) = with_thread T id (λ t. no_stopped_tracee a t ∷ no_message t ∷ [])
reasons_of T a (event.SignalInfo id) = with_thread T id (λ t. no_stopped_tracee a t ∷ no_siginfo t.id t.life ∷ [])
reasons_of T a event.TracerExit = []
reasons_of T a (event.Wait which) = no_tracee T a which ∷ []
reasons_of T a (event.StarterWait which flags) = no_child T a which ∷ []

-- why this actor's event is refused, or None where it isn't
abbrev pub reason_of : Table → ℕ → Event → Option Reason
reason_of T a e = first_reason (reasons_of T a e)

-- The law

-- each reason is of the cause at its place, so the first is that of the refusal that is answered
pub record AreOfCauses : Type 0 where
  pub each : (T : Table) (a : ℕ) (e : Event) → map (option_map refusal_of) (reasons_of T a e) ≡ causes T a e
  pub first : (T : Table) (a : ℕ) (e : Event) → option_map refusal_of (reason_of T a e) ≡ cause_of T a e
