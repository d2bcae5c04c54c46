-- Which pending signal a thread can take, and what it does with it: "Queueing and delivery semantics for multiple
-- signals" of signal(7), and "Signal-delivery-stop" of ptrace(2).
use Rattle.std.specs.Prelude.{ℕ, ◌==◌, List, [], ◌∷◌, ◌++◌, Bool, true, false, not, ◌&&◌, ◌||◌, nat_lt, Option, Some, None, if◌then◌else◌, filter}
use Rattle.std.specs.List.{list_all}
use Rattle.tr_sigset.specs.declared.sets.SigSet.{SigSet}
use Rattle.tr_sigset.specs.declared.signals.Base.{Base}
use Rattle.tr_sigset.specs.declared.signals.Base.TheVariants as base
use Rattle.tr_sigset.specs.Sets.{has}
use Rattle.tr_sigset.specs.Signals.{base_of, is_real_time}
use Rattle.tr_pending.specs.declared.instance.Instance.{Instance}
use Rattle.tr_tracee.specs.declared.life.End.TheVariants.{Killed}
use Rattle.tr_tracee.specs.declared.thread.Thread.{Thread}
use Rattle.tr_tracee.specs.Marks.{paused}
use Rattle.tr_tracee.specs.Threads.{at_thread, is_ready_to_take, is_traced}
use Rattle.tr_group.specs.declared.stops.Action.{Action}
use Rattle.tr_group.specs.declared.stops.Action.TheVariants.{Default, Ignore, Catch}
use Rattle.tr_model.specs.declared.fates.Fate.TheVariants.{Delivered}
use Rattle.tr_model.specs.declared.replies.Did.{Did}
use Rattle.tr_model.specs.declared.replies.Did.TheVariants as did
use Rattle.tr_model.specs.declared.rows.Target.{Target}
use Rattle.tr_model.specs.declared.rows.Target.TheVariants as target
use Rattle.tr_model.specs.Deaths.{begin_death, kill_group}
use Rattle.tr_model.specs.GroupStops.{initiate}
use Rattle.tr_model.specs.Tables.{Table, action_of, queue}
use Rattle.tr_model.specs.Moves.{Work, alter, end_waiting, hold, on_instance, when}

-- Choosing

-- i is to be taken before j: a standard signal before a real-time one, a lower real-time number before a higher, the
-- earlier of one number
abbrev pub goes_before : Instance → Instance → Bool
goes_before i j =
    (not (is_real_time i.sig) && is_real_time j.sig)
    || (is_real_time i.sig && nat_lt i.sig j.sig)
    || (i.sig == j.sig && nat_lt i.n j.n)

-- those whose signal the mask doesn't block
abbrev pub unblocked : SigSet → List Instance → List Instance
unblocked mask is = filter (λ i. not (has mask i.sig)) is

-- those that no other goes before
abbrev pub choices_in : List Instance → List Instance
choices_in is = filter (λ i. list_all (λ j. not (goes_before j i)) is) is

-- the instances that a thread can take from a queue
abbrev pub choices_from : Table → Thread → Target → List Instance
choices_from T t q = if is_ready_to_take t then choices_in (unblocked t.mask (queue T q)) else []

-- from its own queue or the shared one
abbrev pub choices : Table → Thread → List Instance
choices T t = choices_from T t (target.Thread t.id) ++ choices_from T t (target.Group t.group)

-- there is none: nothing to take, nothing ready, no tracee
abbrev pub is_empty : {A : Type 0} → List A → Bool
is_empty [] = true
is_empty (x ∷ xs) = false

-- the thread is free, has no mark, and something that it doesn't block is pending for it or its group
abbrev pub can_take : Table → Thread → Bool
can_take T t = not (is_empty (choices T t))

-- the instance with this number, if it is among these
abbrev pub with_number : ℕ → List Instance → Option Instance
with_number n [] = None
with_number n (i ∷ is) = if i.n == n then Some i else with_number n is

-- Acting

-- Term and Core end the group, Stop initiates a group-stop; what SIGCONT does was done when it was sent
abbrev pub did_by_default : Base → Did
did_by_default base.Term = did.Dying
did_by_default base.Core = did.Dying
did_by_default base.Ignored = did.Ignored
did_by_default base.Stop = did.Stopping
did_by_default base.Continue = did.Ignored

-- what an untraced thread does at a signal
abbrev pub did_of : Action → ℕ → Did
did_of Default s = did_by_default (base_of s)
did_of Ignore s = did.Ignored
did_of Catch s = did.Caught

-- a caught signal ends a pause; after a SIGCONT a stop signal starts no group-stop
abbrev pub act : Thread → ℕ → Bool → Did → Work → Work
act t s came did.Caught w = alter (at_thread t.id (paused false)) w
act t s came did.Ignored w = w
act t s came did.Stopping w = when (not came) (initiate t.group s) w
act t s came did.Dying w = if s == 9 then kill_group t.group w else begin_death t.group (Killed s) false w
act t s came did.Reported w = w

-- the action is that of the thread group; came says that a SIGCONT came during the signal-delivery-stop
abbrev pub act_on : Thread → ℕ → Bool → Work → Work
act_on t s came w = act t s came (did_of (action_of w.table t.group s) s) w

-- Taking

-- a tracee's signal is reported to its tracer, whatever the action; an untraced thread does as the action says
abbrev pub did_at_take : Table → Thread → Instance → Did
did_at_take T t i = if is_traced t then did.Reported else did_of (action_of T t.group i.sig) i.sig

-- the instance is pending no more: delivered
abbrev pub deliver : ℕ → Work → Work
deliver n w = end_waiting Delivered (λ q. q.instance.n == n) w

-- a tracee enters a signal-delivery-stop, whatever its action; an untraced thread acts
abbrev pub take : Thread → Instance → Work → Work
take t i w = if is_traced t then hold t.id i.n w else act_on t i.sig false (deliver i.n w)

-- a number that isn't among what the thread can take changes nothing
abbrev pub take_numbered : ℕ → Thread → Work → Work
take_numbered n t w = on_instance (with_number n (choices w.table t)) (take t) w

-- the queue of what is taken: its own queue where something in it can be taken, else the shared one
abbrev pub taken_from : Option Instance → Thread → Target
taken_from (Some i) t = target.Thread t.id
taken_from None t = target.Group t.group
