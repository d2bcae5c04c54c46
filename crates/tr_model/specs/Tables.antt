-- The kernel's table, and what is read off it.
use Rattle.std.specs.Prelude.{ℕ, ◌-◌, ◌==◌, List, [], Bool, false, ◌||◌, Option, Some, None, filter, find, map, slice_index_or, is_some}
use Rattle.std.specs.List.{list_any, list_all}
use Rattle.tr_sigset.specs.declared.signals.Signal.{Signal}
use Rattle.tr_pending.specs.declared.instance.Instance.{Instance}
use Rattle.tr_tracee.specs.declared.life.End.{End}
use Rattle.tr_tracee.specs.declared.thread.Thread.{Thread}
use Rattle.tr_tracee.specs.Lives.{is_dead, is_live}
use Rattle.tr_tracee.specs.Threads.{in_group, is_traced}
use Rattle.tr_group.specs.declared.stops.Action.{Action}
use Rattle.tr_group.specs.declared.stops.Action.TheVariants.{Default}
use Rattle.tr_group.specs.declared.stops.GroupStop.{GroupStop}
use Rattle.tr_group.specs.declared.stops.GroupStop.TheVariants.{No}
use Rattle.tr_group.specs.GroupStops.{stop_signal}
use Rattle.tr_model.specs.declared.rows.Group.{Group}
use Rattle.tr_model.specs.declared.rows.Target.{Target}
use Rattle.tr_model.specs.declared.rows.Target.TheVariants as target
use Rattle.tr_model.specs.declared.rows.Waiting.{Waiting}

-- Threads and groups stand in table order, all queued instances in order of acceptance. `accepted` signals and `raised`
-- reports have been numbered. `limit` is the queue limit, `entries` the entry limit.
pub record Table : Type 0 where
  pub threads : List Thread
  pub groups : List Group
  pub waiting : List Waiting
  pub accepted : ℕ
  pub raised : ℕ
  pub limit : ℕ
  pub entries : ℕ

-- Threads

-- the first thread with the id
abbrev pub thread_in : List Thread → ℕ → Option Thread
thread_in ts id = find (λ t. t.id == id) ts

-- the thread with the id; a dead one is there until it is removed
abbrev pub thread_of : Table → ℕ → Option Thread
thread_of T id = thread_in T.threads id

-- the threads of a group, in table order
abbrev pub members : Table → ℕ → List Thread
members T g = filter (in_group g) T.threads

-- some thread of the group has a tracer; one that is leaving or dead counts
abbrev pub has_traced : Table → ℕ → Bool
has_traced T g = list_any is_traced (members T g)

-- some thread of the group is neither leaving, dead nor in its exit stop
abbrev pub has_live : Table → ℕ → Bool
has_live T g = list_any (λ t. is_live t.life) (members T g)

-- no thread of the group is left but dead ones
abbrev pub all_dead : Table → ℕ → Bool
all_dead T g = list_all (λ t. is_dead t.life) (members T g)

-- some thread of the group has still to stop for the group-stop
abbrev pub has_stop_mark : Table → ℕ → Bool
has_stop_mark T g = list_any (λ t. t.stop_mark) (members T g)

-- every other thread of its group is dead
abbrev pub others_dead : Table → Thread → Bool
others_dead T t = list_all (λ x. x.id == t.id || is_dead x.life) (members T t.group)

-- Groups

-- the first group with the id, which is its leader's
abbrev pub group_in : List Group → ℕ → Option Group
group_in xs g = find (λ x. x.tgid == g) xs

-- the group with the id; a dead one is there until it is removed
abbrev pub group_of : Table → ℕ → Option Group
group_of T g = group_in T.groups g

-- a group that isn't there is in no group-stop
abbrev pub stop_of : Option Group → GroupStop
stop_of None = No
stop_of (Some x) = x.group_stop

-- the signal of the group-stop in effect
abbrev pub stop_in_effect : Table → ℕ → Option Signal
stop_in_effect T g = stop_signal (stop_of (group_of T g))

-- how the group ends, where it is there and its death began
abbrev pub end_of : Option Group → Option End
end_of None = None
end_of (Some x) = x.end

-- how a dying group ends
abbrev pub group_end : Table → ℕ → Option End
group_end T g = end_of (group_of T g)

-- exit_group(2) or a signal that ends the group began its death
abbrev pub is_dying : Table → ℕ → Bool
is_dying T g = is_some (group_end T g)

-- the actions of a group for the signals from 1 up; a group that isn't there has none
abbrev pub actions_of : Option Group → List Action
actions_of None = []
actions_of (Some x) = x.actions

-- the action of a signal, one for all threads of the group; Default where none is set
abbrev pub action_of : Table → ℕ → ℕ → Action
action_of T g s = slice_index_or (actions_of (group_of T g)) (s - 1) Default

-- Queues

-- one and the same queue; a leader's own queue and the shared one have one id, but are two
abbrev pub same_target : Target → Target → Bool
same_target (target.Thread a) (target.Thread b) = a == b
same_target (target.Group a) (target.Group b) = a == b
same_target _ _ = false

-- the instances pending for this target, in order of acceptance
abbrev pub queue : Table → Target → List Instance
queue T q = map (λ w. w.instance) (filter (λ w. same_target q w.target) T.waiting)

-- the id of the thread group, 0 for a thread that isn't there
abbrev pub group_of_thread : Option Thread → ℕ
group_of_thread None = 0
group_of_thread (Some t) = t.group

-- the group that a queue belongs to
abbrev pub owner_in : List Thread → Target → ℕ
owner_in ts (target.Group g) = g
owner_in ts (target.Thread id) = group_of_thread (thread_in ts id)

-- the thread group whose queue it is: a thread's own queue is one of its group's
abbrev pub owner : Table → Target → ℕ
owner T q = owner_in T.threads q

-- the ids of threads, in their order
abbrev pub ids_of : List Thread → List ℕ
ids_of ts = map (λ t. t.id) ts
