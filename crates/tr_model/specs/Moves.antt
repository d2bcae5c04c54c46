-- A step under way, and the small moves of which each step is made.
use Rattle.std.specs.Prelude.{ℕ, ◌+◌, ◌==◌, List, [], ◌∷◌, ◌++◌, Bool, false, not, ◌&&◌, ◌||◌, Option, Some, None, if◌then◌else◌, filter, map, flat_map}
use Rattle.std.specs.List.{list_any}
use Rattle.tr_pending.specs.declared.instance.Info.{Info}
use Rattle.tr_pending.specs.declared.instance.Instance.{Instance}
use Rattle.tr_wait.specs.declared.status.Status.{Status}
use Rattle.tr_tracee.specs.declared.life.End.{End}
use Rattle.tr_tracee.specs.declared.life.Stop.{Stop}
use Rattle.tr_tracee.specs.declared.life.Stop.TheVariants as stop
use Rattle.tr_tracee.specs.declared.thread.Thread.{Thread}
use Rattle.tr_tracee.specs.Ends.{child}
use Rattle.tr_tracee.specs.Lives.{held, is_dead, is_execing, is_free, status_of_end, status_of_stop}
use Rattle.tr_tracee.specs.Stops.{entered_as, may_enter, reported}
use Rattle.tr_tracee.specs.Threads.{in_group, is_leader, tracer_of}
use Rattle.tr_model.specs.declared.fates.Ending.{Ending}
use Rattle.tr_model.specs.declared.fates.Fate.{Fate}
use Rattle.tr_model.specs.declared.raises.Raise.{Raise}
use Rattle.tr_model.specs.declared.rows.Group.{Group}
use Rattle.tr_model.specs.declared.rows.Target.{Target}
use Rattle.tr_model.specs.declared.rows.Target.TheVariants as target
use Rattle.tr_model.specs.declared.rows.Waiting.{Waiting}
use Rattle.tr_model.specs.Tables.{Table, thread_of}

-- The table as it stands, and what the step has done so far: the instances that it ended, the reports that it raised,
-- the groups whose death it began and those that a KILL was delivered to, and the ids that it gave to another thread.
pub record Work : Type 0 where
  pub table : Table
  pub ended : List Ending
  pub raises : List Raise
  pub dying : List ℕ
  pub killed : List ℕ
  pub renamed : List ℕ

-- a step begins at a table, with nothing ended, raised, killed or renamed yet
abbrev pub begin : Table → Work
begin T = record { table = T; ended = []; raises = []; dying = []; killed = []; renamed = [] }

-- Moves joined

-- the move where the condition holds, else nothing changes
abbrev pub when : Bool → (Work → Work) → Work → Work
when b move w = if b then move w else w

-- the move for one number after the other, each at the table that the earlier ones left
abbrev pub each : List ℕ → (ℕ → Work → Work) → Work → Work
each [] move w = w
each (x ∷ xs) move w = each xs move (move x w)

-- a move of a thread that may not be there; then nothing changes
abbrev pub on_thread : Option Thread → (Thread → Work → Work) → Work → Work
on_thread None move w = w
on_thread (Some t) move w = move t w

-- a move of the thread with the id, as it stands
abbrev pub at : ℕ → (Thread → Work → Work) → Work → Work
at id move w = on_thread (thread_of w.table id) move w

-- a move with an instance that may not be there; then nothing changes
abbrev pub on_instance : Option Instance → (Instance → Work → Work) → Work → Work
on_instance None move w = w
on_instance (Some i) move w = move i w

-- Threads

-- f at the first thread with the id
abbrev pub changed : ℕ → (Thread → Thread) → List Thread → List Thread
changed id f [] = []
changed id f (t ∷ ts) = if t.id == id then f t ∷ ts else t ∷ changed id f ts

-- without the first thread with the id
abbrev pub dropped : ℕ → List Thread → List Thread
dropped id [] = []
dropped id (t ∷ ts) = if t.id == id then ts else t ∷ dropped id ts

-- a change of life ends the instance that was held and is held no more
abbrev pub ended_hold : Fate → Option Instance → Option Instance → List Ending
ended_hold fate None after = []
ended_hold fate (Some i) None = record { number = i.n; fate = fate } ∷ []
ended_hold fate (Some i) (Some j) = []

-- what a signal-delivery-stop held ends with this fate, where f takes the thread out of that stop
abbrev pub ended_by_change : Fate → (Thread → Thread) → Thread → List Ending
ended_by_change fate f t = ended_hold fate (held t.life) (held (f t).life)

-- each thread becomes what f makes of it, where that ends no instance
abbrev pub alter : (Thread → Thread) → Work → Work
alter f w = record w { table = record w.table { threads = map f w.table.threads } }

-- the same, where what was held ends with this fate
abbrev pub become : Fate → (Thread → Thread) → Work → Work
become fate f w =
    record w {
      table = record w.table { threads = map f w.table.threads };
      ended = w.ended ++ flat_map (ended_by_change fate f) w.table.threads;
    }

-- the same for one thread of the table
abbrev pub change_ending : Fate → (Thread → Thread) → Thread → Work → Work
change_ending fate f t w =
    record w {
      table = record w.table { threads = changed t.id f w.table.threads };
      ended = w.ended ++ ended_by_change fate f t;
    }

-- the next report, on this thread, for its tracer or the starter
abbrev pub raise_with : (Thread → Thread) → Thread → Status → Work → Work
raise_with f t s w =
    record w {
      table = record w.table { threads = changed t.id f w.table.threads; raised = w.table.raised + 1 };
      raises = w.raises ++ record { number = w.table.raised + 1; whom = tracer_of t.trace; id = t.id; status = s } ∷ [];
    }

-- the next report, on a thread that is otherwise left as it is
abbrev pub raise : Thread → Status → Work → Work
raise t s w = raise_with (reported (w.table.raised + 1) s) t s w

-- the thread is in the ptrace-stop, with the wait status of that stop as its next report
abbrev pub entered_now : Stop → Thread → Work → Work
entered_now s t w = raise_with (entered_as (w.table.raised + 1) s) t (status_of_stop s) w

-- a thread that is in a ptrace-stop, told to leave, dead or in execve(2) enters none
abbrev pub enter_if_allowed : Stop → Thread → Work → Work
enter_if_allowed s t w = if may_enter t.life then entered_now s t w else w

-- a ptrace-stop, other than a signal-delivery-stop
abbrev pub enter : ℕ → Stop → Work → Work
enter id s w = at id (enter_if_allowed s) w

-- only a dead thread has a death report; the end that it tells may be the group's
abbrev pub report_dead : End → Thread → Work → Work
report_dead e t w = if is_dead t.life then raise t (status_of_end e) w else w

-- the death report of a dead thread
abbrev pub report_death : ℕ → End → Work → Work
report_death id e w = at id (report_dead e) w

-- a new thread comes last in the table
abbrev pub added : Thread → Work → Work
added t w = record w { table = record w.table { threads = w.table.threads ++ t ∷ [] } }

-- only a free thread has a child, which is of its thread group
abbrev pub spawned : ℕ → Bool → Thread → Work → Work
spawned id stop_mark t w = if is_free t.life then added (child id stop_mark t) w else w

-- a clone of a free thread comes last in the table
abbrev pub spawn : ℕ → ℕ → Bool → Work → Work
spawn parent id stop_mark w = at parent (spawned id stop_mark) w

-- dead threads that pass the test are removed
abbrev pub remove_dead : (Thread → Bool) → Work → Work
remove_dead p w = record w { table = record w.table { threads = filter (λ t. not (p t && is_dead t.life)) w.table.threads } }

-- a thread's own queue goes with it to its new id; a shared queue stays that of its group
abbrev pub retarget : ℕ → ℕ → Target → Target
retarget from to (target.Thread id) = if id == from then target.Thread to else target.Thread id
retarget from to (target.Group g) = target.Group g

-- an instance that waits for the former id waits for the new one, and keeps its place in the order
abbrev pub retargeted : ℕ → ℕ → Waiting → Waiting
retargeted from to q = record q { target = retarget from to q.target }

-- the thread has another id, and a report under its former one is withdrawn
abbrev pub renamed : ℕ → Thread → Thread
renamed id t = record t { id = id; report = None }

-- the row of the dead leader becomes that of the thread, with the leader's id; every other row stays
abbrev pub in_leaders_row : Thread → Thread → Thread
in_leaders_row t x = if x.id == t.group && is_dead x.life then renamed t.group t else x

-- the thread leaves its own row for the dead leader's, what waits for it goes along, and the log has the id that it took
abbrev pub with_leaders_row : Thread → Work → Work
with_leaders_row t w =
    record w {
      table = record w.table {
        threads = map (in_leaders_row t) (dropped t.id w.table.threads);
        waiting = map (retargeted t.id t.group) w.table.waiting;
      };
      renamed = w.renamed ++ t.group ∷ [];
    }

-- execve(2) by another thread than the leader; an execing leader has its place already
abbrev pub taking_place : Thread → Work → Work
taking_place t w = if is_execing t.life && not (is_leader t) then with_leaders_row t w else w

-- an execing thread takes the dead leader's place and id, and its queue goes with it
abbrev pub take_place : ℕ → Work → Work
take_place id w = at id taking_place w

-- Groups

-- f at the group with the id
abbrev pub only_group : ℕ → (Group → Group) → Group → Group
only_group g f x = if x.tgid == g then f x else x

-- each group becomes what f makes of it
abbrev pub regroup : (Group → Group) → Work → Work
regroup f w = record w { table = record w.table { groups = map f w.table.groups } }

-- f at the first group with the id
abbrev pub group_changed : ℕ → (Group → Group) → List Group → List Group
group_changed g f [] = []
group_changed g f (x ∷ xs) = if x.tgid == g then f x ∷ xs else x ∷ group_changed g f xs

-- a note for the starter replaces an older one that no wait has consumed
abbrev pub with_note : ℕ → Status → Group → Group
with_note n s x = record x { note = Some (record { number = n; status = s }) }

-- the next report, a note of this group for the starter
abbrev pub note : ℕ → Status → Work → Work
note g s w =
    record w {
      table = record w.table { groups = group_changed g (with_note (w.table.raised + 1) s) w.table.groups; raised = w.table.raised + 1 };
      raises = w.raises ++ record { number = w.table.raised + 1; whom = None; id = g; status = s } ∷ [];
    }

-- every other group, and this one while a thread of it, dead or not, is in the table
abbrev pub stays : ℕ → Work → Group → Bool
stays g w x = not (x.tgid == g) || list_any (in_group g) w.table.threads

-- a group without threads is removed
abbrev pub drop_empty : ℕ → Work → Work
drop_empty g w = record w { table = record w.table { groups = filter (stays g w) w.table.groups } }

-- the group's death began
abbrev pub tell_dying : ℕ → Work → Work
tell_dying g w = record w { dying = w.dying ++ g ∷ [] }

-- a KILL was delivered to the group
abbrev pub tell_killed : ℕ → Work → Work
tell_killed g w = record w { killed = w.killed ++ g ∷ [] }

-- Instances

-- an accepted signal has the next number, counted over the whole kernel
abbrev pub next_instance : ℕ → Info → Work → Instance
next_instance s info w = record { n = w.table.accepted + 1; sig = s; info = info }

-- an accepted signal waits
abbrev pub enqueue : ℕ → Info → Target → Work → Work
enqueue s info q w =
    record w {
      table = record w.table {
        waiting = w.table.waiting ++ record { instance = next_instance s info w; target = q } ∷ [];
        accepted = w.table.accepted + 1;
      };
    }

-- an accepted signal ends at once
abbrev pub accept_as : Fate → Work → Work
accept_as fate w =
    record w {
      table = record w.table { accepted = w.table.accepted + 1 };
      ended = w.ended ++ record { number = w.table.accepted + 1; fate = fate } ∷ [];
    }

-- an instance that waited has this fate
abbrev pub ending_of : Fate → Waiting → Ending
ending_of fate q = record { number = q.instance.n; fate = fate }

-- the instances that pass the test wait no more
abbrev pub end_waiting : Fate → (Waiting → Bool) → Work → Work
end_waiting fate p w =
    record w {
      table = record w.table { waiting = filter (λ q. not (p q)) w.table.waiting };
      ended = w.ended ++ map (ending_of fate) (filter p w.table.waiting);
    }

-- the instance with the number, whichever queue it waits in
abbrev pub instance_in : List Waiting → ℕ → Option Instance
instance_in [] n = None
instance_in (q ∷ qs) n = if q.instance.n == n then Some q.instance else instance_in qs n

-- without the first instance with the number; the others keep their order
abbrev pub without_instance : ℕ → List Waiting → List Waiting
without_instance n [] = []
without_instance n (q ∷ qs) = if q.instance.n == n then qs else q ∷ without_instance n qs

-- the instance leaves its queue but hasn't ended: its fate is still pending
abbrev pub pulled : Instance → Work → Work
pulled i w = record w { table = record w.table { waiting = without_instance i.n w.table.waiting } }

-- the stop of a free thread takes the instance out of its queue; no SIGCONT came during that stop yet
abbrev pub holding : Thread → Instance → Work → Work
holding t i w = if is_free t.life then enter_if_allowed (stop.Signal i false) t (pulled i w) else w

-- a free thread enters a signal-delivery-stop, which holds a waiting instance
abbrev pub hold : ℕ → ℕ → Work → Work
hold id n w = at id (λ t. on_instance (instance_in w.table.waiting n) (holding t)) w
