-- When an event is refused, and when it is answered without an entry.
use Rattle.std.specs.Prelude.{ℕ, List, [], ◌∷◌, ◌++◌, length, Bool, false, not, ◌&&◌, ◌||◌, ◌==◌, nat_lt, nat_le, Option, Some, None, if◌then◌else◌, is_some}
use Rattle.std.specs.List.{list_any}
use Rattle.tr_sigset.specs.Signals.{is_real_time}
use Rattle.tr_pending.specs.declared.instance.Instance.{Instance}
use Rattle.tr_wait.specs.Words.{asks_for}
use Rattle.tr_tracee.specs.declared.life.Life.{Life}
use Rattle.tr_tracee.specs.declared.life.Life.TheVariants as life
use Rattle.tr_tracee.specs.declared.life.Stop.TheVariants as stop
use Rattle.tr_tracee.specs.declared.thread.Thread.{Thread}
use Rattle.tr_tracee.specs.Lives.{held, is_execing, is_free, is_in_event_stop, is_in_stop, is_leaving, is_live, message, serves_marks}
use Rattle.tr_tracee.specs.Threads.{has_mark, is_traced, is_tracee_of, seized}
use Rattle.tr_model.specs.declared.events.Event.{Event}
use Rattle.tr_model.specs.declared.events.Event.TheVariants as event
use Rattle.tr_model.specs.declared.replies.Refusal.{Refusal}
use Rattle.tr_model.specs.declared.replies.Refusal.TheVariants.{Perm, Srch, Io, Child, Again, Inval, Busy, NotDue, NotRunning, Unmodelled}
use Rattle.tr_model.specs.declared.replies.Reply.{Reply}
use Rattle.tr_model.specs.declared.replies.Reply.TheVariants as reply
use Rattle.tr_model.specs.Tracers.{tracees}
use Rattle.tr_model.specs.Tables.{Table, group_of, is_dying, members, others_dead, thread_of}
use Rattle.tr_model.specs.Takes.{can_take, is_empty}
use Rattle.tr_model.specs.StarterWaits.{led_groups, ready_for_starter}
use Rattle.tr_model.specs.Waits.{ready}

-- The first cause that holds

-- one call has one error: the earliest cause that holds hides those after it
abbrev pub first_cause : List (Option Refusal) → Option Refusal
first_cause [] = None
first_cause (None ∷ rest) = first_cause rest
first_cause (Some why ∷ rest) = Some why

-- a condition that has to hold, else the event is refused so
abbrev pub unless : Bool → Refusal → Option Refusal
unless holds why = if holds then None else Some why

-- a condition that must not hold, else the event is refused so
abbrev pub refused_if : Bool → Refusal → Option Refusal
refused_if holds why = if holds then Some why else None

-- a thread that has to be there
abbrev pub thread_then : Option Thread → (Thread → List (Option Refusal)) → List (Option Refusal)
thread_then None causes = Some Srch ∷ []
thread_then (Some t) causes = causes t

-- causes that are asked of the thread with this id; where the table has none, ESRCH alone
abbrev pub with_thread : Table → ℕ → (Thread → List (Option Refusal)) → List (Option Refusal)
with_thread T id causes = thread_then (thread_of T id) causes

-- a thread's own operation wants it running, with nothing to serve and nothing to take
abbrev pub script : Table → Thread → List (Option Refusal)
script T t = unless (is_free t.life && not t.pausing) NotRunning ∷ refused_if (has_mark t || can_take T t) Busy ∷ []

-- a request on a ptrace-stop wants a stopped tracee of the actor
abbrev pub cause_unless_stopped : ℕ → Thread → Option Refusal
cause_unless_stopped a t = unless (is_tracee_of a t && is_in_stop t.life) Srch

-- PTRACE_ATTACH and PTRACE_SEIZE want an untraced live thread of a group that isn't dying
abbrev pub traceable : Table → Thread → Option Refusal
traceable T t = unless (not (is_traced t) && is_live t.life && not (is_dying T t.group)) Perm

-- as many instances wait in all queues as the queue limit says: RLIMIT_SIGPENDING
abbrev pub queue_full : Table → ℕ → Option Refusal
queue_full T s = refused_if (is_real_time s && nat_le T.limit (length T.waiting)) Again

-- EINVAL for a number above 64; 0 passes, as it only asks whether the target is there
abbrev pub no_signal : ℕ → Option Refusal
no_signal s = refused_if (nat_lt 64 s) Inval

-- the thread exists and is of this group
abbrev pub is_in : ℕ → Option Thread → Bool
is_in g None = false
is_in g (Some t) = t.group == g

-- 1,024 threads in the table, 64 in a group; dead ones count
abbrev pub at_limit : Table → Thread → Bool
at_limit T t = nat_le 1024 (length T.threads) || nat_le 64 (length (members T t.group))

-- PTRACE_GETSIGINFO tells of a signal-delivery-stop alone: EINVAL at an attached tracee's group-stop, else outside this model
abbrev pub no_siginfo : Life → Option Refusal
no_siginfo (life.InStop (stop.Signal i came)) = None
no_siginfo (life.InStop (stop.Group s)) = Some Inval
no_siginfo _ = Some Unmodelled

-- The causes of each event, in their order

-- the errors that an event can meet, first to last: those of its manual page, and the model's own
abbrev pub causes : Table → ℕ → Event → List (Option Refusal)
causes T a (event.Kill g s) = no_signal s ∷ unless (is_some (group_of T g)) Srch ∷ queue_full T s ∷ []
causes T a (event.Tgkill g id s) = no_signal s ∷ unless (is_in g (thread_of T id)) Srch ∷ queue_full T s ∷ []
causes T a (event.Sigqueue g s v) = no_signal s ∷ unless (is_some (group_of T g)) Srch ∷ queue_full T s ∷ []
causes T a (event.Mask id set) = with_thread T id (script T)
causes T a (event.SetAction id s how) = with_thread T id (λ t. script T t ++ refused_if (s == 0 || s == 9 || s == 19 || nat_lt 64 s) Inval ∷ [])
causes T a (event.Pause id) = with_thread T id (script T)
causes T a (event.Take id) = with_thread T id (λ t. unless (is_free t.life) NotRunning ∷ refused_if (has_mark t) Busy ∷ [])
causes T a (event.TakeAny g) = unless (is_some (group_of T g)) Srch ∷ []
causes T a (event.Halt id) = with_thread T id (λ t. unless (t.stop_mark && serves_marks t.life) NotDue ∷ [])
causes T a (event.Trap id) = with_thread T id (λ t. unless ((t.trap_mark || t.note_mark) && serves_marks t.life) NotDue ∷ [])
causes T a (event.Die id) = with_thread T id (λ t. unless (is_leaving t.life) NotDue ∷ [])
causes T a (event.CloneThread id) = with_thread T id (λ t. script T t ++ refused_if (at_limit T t) Again ∷ [])
causes T a (event.Exec id) = with_thread T id (script T)
causes T a (event.Finish id) = with_thread T id (λ t. unless (is_execing t.life && others_dead T t) NotDue ∷ [])
causes T a (event.Exit id code) = with_thread T id (script T)
causes T a (event.ExitGroup id code) = with_thread T id (script T)
causes T a (event.Attach id) = with_thread T id (λ t. traceable T t ∷ [])
causes T a (event.Seize id o) = with_thread T id (λ t. traceable T t ∷ [])
causes T a (event.Interrupt id) = with_thread T id (λ t. unless (is_tracee_of a t && is_live t.life) Srch ∷ unless (seized t.trace) Io ∷ [])
causes T a (event.Cont id s) = with_thread T id (λ t. cause_unless_stopped a t ∷ refused_if (nat_lt 64 s) Io ∷ [])
causes T a (event.Listen id) = with_thread T id (λ t. cause_unless_stopped a t ∷ unless (seized t.trace && is_in_event_stop t.life) Io ∷ [])
causes T a (event.Detach id s) = with_thread T id (λ t. cause_unless_stopped a t ∷ refused_if (nat_lt 64 s) Io ∷ [])
causes T a (event.SetOptions id o) = with_thread T id (λ t. cause_unless_stopped a t ∷ [])
causes T a (event.EventMessage id) = with_thread T id (λ t. cause_unless_stopped a t ∷ unless (is_some (message t.life)) Unmodelled ∷ [])
causes T a (event.SignalInfo id) = with_thread T id (λ t. cause_unless_stopped a t ∷ no_siginfo t.life ∷ [])
causes T a event.TracerExit = []
causes T a (event.Wait which) = unless (list_any (λ t. asks_for which t.id) (tracees T a)) Child ∷ []
causes T a (event.StarterWait which flags) = unless (a == 1 && not (is_empty (led_groups T which))) Child ∷ []

-- why this actor's event is refused, or None where it isn't
abbrev pub cause_of : Table → ℕ → Event → Option Refusal
cause_of T a e = first_cause (causes T a e)

-- Answers without an entry

-- the answer where there is nothing to take, no report to wait for or no tracee
abbrev pub nothing_where : Bool → Option Reply
nothing_where b = if b then Some reply.Nothing else None

-- signal 0 asks whether the target is there: kill(2)
abbrev pub exists_where : ℕ → Option Reply
exists_where s = if s == 0 then Some reply.Exists else None

-- the thread exists, and a signal is pending that it can take now
abbrev pub can_take_thread : Table → Option Thread → Bool
can_take_thread T None = false
can_take_thread T (Some t) = can_take T t

-- the answer to PTRACE_GETEVENTMSG, at a stop that has a message
abbrev pub message_reply : Option ℕ → Option Reply
message_reply None = None
message_reply (Some n) = Some (reply.Message n)

-- the message of the ptrace-stop that the thread is in: the new id, the former id or the word of its end
abbrev pub message_of : Option Thread → Option Reply
message_of None = None
message_of (Some t) = message_reply (message t.life)

-- PTRACE_GETSIGINFO tells the signal of a held instance, and its code, sender and value
abbrev pub siginfo : Option Instance → Option Reply
siginfo None = None
siginfo (Some i) = Some (reply.Signal i.sig i.info)

-- the signal information of the instance that the thread's signal-delivery-stop holds, if it is in one
abbrev pub siginfo_of : Option Thread → Option Reply
siginfo_of None = None
siginfo_of (Some t) = siginfo (held t.life)

-- a probe by signal 0, a read of a ptrace-stop and an event that finds nothing to do are answered so; None where an entry is due
abbrev pub quiet_of : Table → ℕ → Event → Option Reply
quiet_of T a (event.Kill g s) = exists_where s
quiet_of T a (event.Tgkill g id s) = exists_where s
quiet_of T a (event.Sigqueue g s v) = exists_where s
quiet_of T a (event.Take id) = nothing_where (not (can_take_thread T (thread_of T id)))
quiet_of T a (event.TakeAny g) = nothing_where (not (list_any (can_take T) (members T g)))
quiet_of T a (event.EventMessage id) = message_of (thread_of T id)
quiet_of T a (event.SignalInfo id) = siginfo_of (thread_of T id)
quiet_of T a event.TracerExit = nothing_where (is_empty (tracees T a))
quiet_of T a (event.Wait which) = nothing_where (is_empty (ready T a which))
quiet_of T a (event.StarterWait which flags) = nothing_where (is_empty (ready_for_starter T which flags))
quiet_of T a _ = None
