-- Journals: replay, and what their entries ended, raised, consumed, took and killed.
use Rattle.std.specs.Prelude.{◌≡◌, ℕ, ◌+◌, ◌<◌, ◌≤◌, zero, suc, List, [], ◌∷◌, ◌++◌, length, Bool, true, false, ◌&&◌, ◌==◌, nat_le, Option, Some, None, if◌then◌else◌, ◌⊎◌, slice_get, unwrap_or, option_to_list}
use Rattle.tr_pending.specs.declared.instance.Instance.{Instance}
use Rattle.tr_tracee.specs.declared.life.Life.TheVariants as life
use Rattle.tr_tracee.specs.declared.thread.Thread.{Thread}
use Rattle.tr_tracee.specs.Lives.{held}
use Rattle.tr_group.specs.declared.stops.GroupStop.TheVariants.{No}
use Rattle.tr_model.specs.Choices.{Choice}
use Rattle.tr_model.specs.Entries.{Entry}
use Rattle.tr_model.specs.declared.events.Event.{Event}
use Rattle.tr_model.specs.declared.events.Event.TheVariants as event
use Rattle.tr_model.specs.declared.fates.Ending.{Ending}
use Rattle.tr_model.specs.declared.fates.Fate.{Fate}
use Rattle.tr_model.specs.declared.fates.Fate.TheVariants.{Pending, Merged, Delivered, Suppressed, Flushed}
use Rattle.tr_model.specs.declared.fates.Totals.{Totals}
use Rattle.tr_model.specs.declared.replies.Reply.{Reply}
use Rattle.tr_model.specs.declared.rows.Group.{Group}
use Rattle.tr_model.specs.declared.rows.Target.{Target}
use Rattle.tr_model.specs.declared.rows.Target.TheVariants as target
use Rattle.tr_model.specs.declared.rows.Waiting.{Waiting}
use Rattle.tr_model.specs.Steps.{Step, number, work_of}
use Rattle.tr_model.specs.Tables.{Table, ids_of, thread_of}
use Rattle.tr_model.specs.Takes.{choices_from, with_number}
use Rattle.tr_model.specs.declared.raises.Raise.{Raise}

-- Lists

-- how often the number stands in the list
abbrev pub occurs : ℕ → List ℕ → ℕ
occurs n [] = 0
occurs n (x ∷ xs) = (if x == n then 1 else 0) + occurs n xs

-- the number is one of these
abbrev pub IsIn : ℕ → List ℕ → Type 0
IsIn n [] = ⊥
IsIn n (x ∷ xs) = (x ≡ n) ⊎ IsIn n xs

-- all threads of the list have the property
abbrev pub Each : (Thread → Type 0) → List Thread → Type 0
Each Q [] = Unit {0}
Each Q (t ∷ ts) = Q t × Each Q ts

-- all groups of the list have the property
abbrev pub EachGroup : (Group → Type 0) → List Group → Type 0
EachGroup Q [] = Unit {0}
EachGroup Q (x ∷ xs) = Q x × EachGroup Q xs

-- no two threads of the table have one id
abbrev pub DistinctIds : Table → Type 0
DistinctIds T = (n : ℕ) → occurs n (ids_of T.threads) ≤ 1

-- all that waits here was accepted after the signal with this number
abbrev pub AllAbove : ℕ → List Waiting → Type 0
AllAbove n [] = Unit {0}
AllAbove n (q ∷ qs) = (n < q.instance.n) × AllAbove n qs

-- what waits stands in order of acceptance
abbrev pub IsSorted : List Waiting → Type 0
IsSorted [] = Unit {0}
IsSorted (q ∷ qs) = AllAbove q.instance.n qs × IsSorted qs

-- no number that waits is above this one
abbrev pub AllUpTo : ℕ → List Waiting → Type 0
AllUpTo n [] = Unit {0}
AllUpTo n (q ∷ qs) = (q.instance.n ≤ n) × AllUpTo n qs

-- Starts

-- runs, untraced, with nothing to serve or to tell
pub record IsFresh (t : Thread) : Type 0 where
  pub life : t.life ≡ life.Free
  pub trace : t.trace ≡ None
  pub pausing : t.pausing ≡ false
  pub stop_mark : t.stop_mark ≡ false
  pub trap_mark : t.trap_mark ≡ false
  pub note_mark : t.note_mark ≡ false
  pub joined : t.joined ≡ false
  pub report : t.report ≡ None

-- not dying, in no group-stop, and without a note for the starter
pub record IsFreshGroup (x : Group) : Type 0 where
  pub group_stop : x.group_stop ≡ No
  pub end : x.end ≡ None
  pub note : x.note ≡ None

-- nothing has happened yet
pub record IsStart (T : Table) : Type 0 where
  pub threads : Each IsFresh T.threads
  pub groups : EachGroup IsFreshGroup T.groups
  pub ids : DistinctIds T
  pub few_threads : length T.threads ≤ 1024
  pub few_groups : length T.groups ≤ 1024
  pub waiting : T.waiting ≡ []
  pub accepted : T.accepted ≡ 0
  pub raised : T.raised ≡ 0

-- Replay

-- the replies lead, entry by entry, from one table to another
abbrev pub Replay : Table → List Entry → List Reply → Table → Type 0
Replay T [] [] U = U ≡ T
Replay T (e ∷ es) (r ∷ rs) U = (M : Table) × Step T e r M × Replay M es rs U
Replay T [] (r ∷ rs) U = ⊥
Replay T (e ∷ es) [] U = ⊥

-- Instances

-- the numbers that wait
abbrev pub waiting_numbers : List Waiting → List ℕ
waiting_numbers [] = []
waiting_numbers (q ∷ qs) = q.instance.n ∷ waiting_numbers qs

-- the number of the instance that a signal-delivery-stop holds, if there is one
abbrev pub number_held : Option Instance → List ℕ
number_held None = []
number_held (Some i) = i.n ∷ []

-- those that signal-delivery-stops hold
abbrev pub held_numbers : List Thread → List ℕ
held_numbers [] = []
held_numbers (t ∷ ts) = number_held (held t.life) ++ held_numbers ts

-- which accepted signals were ended, by their numbers
abbrev pub numbers_of : List Ending → List ℕ
numbers_of [] = []
numbers_of (e ∷ es) = e.number ∷ numbers_of es

-- all that the entries ended, in order
abbrev pub ended_by : Table → List Entry → List Ending
ended_by T [] = []
ended_by T (e ∷ es) = (work_of T e).ended ++ ended_by (work_of T e).table es

-- the fate by the first ending of the number, or None where nothing ended it
abbrev pub ended_as : List Ending → ℕ → Option Fate
ended_as [] n = None
ended_as (e ∷ es) n = if e.number == n then Some e.fate else ended_as es n

-- the fate of an accepted number: pending, where nothing ended it
abbrev pub fate_of : Table → List Entry → Table → ℕ → Option Fate
fate_of T es U n = if nat_le 1 n && nat_le n U.accepted then Some (unwrap_or (ended_as (ended_by T es) n) Pending) else None

-- a number has a fate: it waits or is held, or an entry ended it so
pub data HasFate (ended : List Ending) (U : Table) (n : ℕ) : Fate → Type 0 where
  still : IsIn n (waiting_numbers U.waiting ++ held_numbers U.threads) → HasFate ended U n Pending
  ended_so : {f : Fate} → (k : ℕ) → slice_get ended k ≡ Some (record { number = n; fate = f }) → HasFate ended U n f

-- both pending, both merged, both delivered, both suppressed or both flushed
abbrev pub same_fate : Fate → Fate → Bool
same_fate Pending Pending = true
same_fate Merged Merged = true
same_fate Delivered Delivered = true
same_fate Suppressed Suppressed = true
same_fate Flushed Flushed = true
same_fate _ _ = false

-- the number was accepted and has this fate; one that wasn't accepted has none
abbrev pub is_fate : Fate → Option Fate → Bool
is_fate f None = false
is_fate f (Some g) = same_fate f g

-- 1 for a number with this fate, 0 for any other
abbrev pub counts : Fate → Option Fate → ℕ
counts f o = if is_fate f o then 1 else 0

-- how many of the numbers 1 to k have a fate
abbrev pub how_many : Table → List Entry → Table → Fate → ℕ → ℕ
how_many T es U f zero = 0
how_many T es U f (suc k) = counts f (fate_of T es U (suc k)) + how_many T es U f k

-- how many signals were accepted by the last table, and how many of them have each fate
abbrev pub totals : Table → List Entry → Table → Totals
totals T es U = record {
  accepted = U.accepted;
  pending = how_many T es U Pending U.accepted;
  merged = how_many T es U Merged U.accepted;
  delivered = how_many T es U Delivered U.accepted;
  suppressed = how_many T es U Suppressed U.accepted;
  flushed = how_many T es U Flushed U.accepted;
}

-- Reports

-- all reports that the entries raised, in order, also those since withdrawn or consumed
abbrev pub raised_by : Table → List Entry → List Raise
raised_by T [] = []
raised_by T (e ∷ es) = (work_of T e).raises ++ raised_by (work_of T e).table es

-- among these, a report of this number was raised for this tracer, or with None for the starter
abbrev pub WasRaised : ℕ → Option ℕ → List Raise → Type 0
WasRaised r whom [] = ⊥
WasRaised r whom (x ∷ xs) = ((x.number ≡ r) × (x.whom ≡ whom)) ⊎ WasRaised r whom xs

-- the report that an event consumes by its choice, if it names one: for a wait
abbrev pub consumed_of : Event → Choice → List ℕ
consumed_of (event.Wait which) c = option_to_list c.report
consumed_of (event.StarterWait which flags) c = option_to_list c.report
consumed_of _ c = []

-- for whom: a tracer, or the starter
abbrev pub consumer_of : ℕ → Event → Option ℕ
consumer_of a (event.Wait which) = Some a
consumer_of a _ = None

-- what the entry's wait consumes: at most one report, and none where the entry is no wait
abbrev pub consumed : Entry → List ℕ
consumed e = consumed_of e.event e.choice

-- the tracer whose wait the entry is; None for the starter's wait, and where the entry is no wait
abbrev pub consumer : Entry → Option ℕ
consumer e = consumer_of e.actor e.event

-- all reports that waits of these entries consumed, in order
abbrev pub consumed_by : List Entry → List ℕ
consumed_by [] = []
consumed_by (e ∷ es) = consumed e ++ consumed_by es

-- Takes

-- what a take took: its number in the order of acceptance, its signal, and whose queue it waited in
pub record Taken : Type 0 where
  pub number : ℕ
  pub signal : ℕ
  pub queue : Target

-- what was found in this queue goes before what was found in another
abbrev pub taken_if : Target → Option Instance → Option Taken → Option Taken
taken_if q None other = other
taken_if q (Some i) other = Some (record { number = i.n; signal = i.sig; queue = q })

-- from its own queue, or else from the shared one
abbrev pub taken_by : Table → Option Thread → ℕ → Option Taken
taken_by T None n = None
taken_by T (Some t) n =
    taken_if (target.Thread t.id) (with_number n (choices_from T t (target.Thread t.id)))
    (taken_if (target.Group t.group) (with_number n (choices_from T t (target.Group t.group))) None)

-- the signal that a thread takes by the choice of a Take or TakeAny; other events take none
abbrev pub taken_of : Table → Event → Choice → Option Taken
taken_of T (event.Take id) c = taken_by T (thread_of T id) (number c.instance)
taken_of T (event.TakeAny g) c = taken_by T (thread_of T (number c.thread)) (number c.instance)
taken_of T _ c = None

-- the signal that the entry takes at this table, if it is a take
abbrev pub taken : Table → Entry → Option Taken
taken T e = taken_of T e.event e.choice

-- the queue that it came from
abbrev pub queue_of : Option Taken → Option Target
queue_of None = None
queue_of (Some k) = Some k.queue

-- the ids that entries gave to another thread
abbrev pub renamed_by : Table → List Entry → List ℕ
renamed_by T [] = []
renamed_by T (e ∷ es) = (work_of T e).renamed ++ renamed_by (work_of T e).table es

-- Kills

-- the groups that entries delivered a KILL to
abbrev pub killed_by : Table → List Entry → List ℕ
killed_by T [] = []
killed_by T (e ∷ es) = (work_of T e).killed ++ killed_by (work_of T e).table es
