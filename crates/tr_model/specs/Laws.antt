-- The laws of every journal that replays from a start, whoever made its entries.
use Rattle.std.specs.Prelude.{◌≡◌, ◌≢◌, ℕ, ◌+◌, ◌≤◌, ◌<◌, List, [], ◌∷◌, ◌++◌, length, true, Option, Some, None, ◌⊎◌, unwrap_or}
use Rattle.tr_wait.specs.declared.status.Status.{Status}
use Rattle.tr_wait.specs.declared.status.Status.TheVariants as status
use Rattle.tr_wait.specs.declared.waits.Which.{Which}
use Rattle.tr_tracee.specs.declared.thread.Report.{Report}
use Rattle.tr_tracee.specs.declared.thread.Thread.{Thread}
use Rattle.tr_tracee.specs.Lives.{is_told}
use Rattle.tr_tracee.specs.Threads.{tracer_of}
use Rattle.tr_model.specs.Choices.{Choice}
use Rattle.tr_model.specs.Entries.{Entry}
use Rattle.tr_model.specs.declared.events.Event.{Event}
use Rattle.tr_model.specs.declared.events.Event.TheVariants as event
use Rattle.tr_model.specs.declared.fates.Fate.{Fate}
use Rattle.tr_model.specs.declared.fates.Fate.TheVariants.{Pending}
use Rattle.tr_model.specs.declared.replies.Refusal.{Refusal}
use Rattle.tr_model.specs.declared.replies.Refusal.TheVariants.{NoMemory, ThreadedExec, JournalFull}
use Rattle.tr_model.specs.declared.replies.Reply.{Reply}
use Rattle.tr_model.specs.declared.replies.Reply.TheVariants as reply
use Rattle.tr_model.specs.declared.rows.Target.{Target}
use Rattle.tr_model.specs.declared.rows.Target.TheVariants as target
use Rattle.tr_model.specs.Causes.{cause_of, quiet_of}
use Rattle.tr_model.specs.Journals.{Each, EachGroup, DistinctIds, HasFate, IsIn, IsSorted, IsStart, Replay, Taken, WasRaised, consumed, consumed_by, consumer, ended_as, ended_by, held_numbers, killed_by, numbers_of, occurs, raised_by, renamed_by, taken, totals, waiting_numbers}
use Rattle.tr_model.specs.Preferred.{preferred}
use Rattle.tr_model.specs.Steps.{Admits, Step, work_of}
use Rattle.tr_model.specs.Tables.{Table, thread_of}
use Rattle.tr_model.specs.Waits.{ready_thread}

-- One fate

-- Of the accepted numbers each is once among those that wait, are held or were ended by an entry; no other number is.
pub record OneFate (T : Table) (es : List Entry) (U : Table) : Type 0 where
  pub accepted : (n : ℕ) → 1 ≤ n → n ≤ U.accepted → occurs n (waiting_numbers U.waiting ++ held_numbers U.threads ++ numbers_of (ended_by T es)) ≡ 1
  pub others : (n : ℕ) → (n ≡ 0) ⊎ (U.accepted < n) → occurs n (waiting_numbers U.waiting ++ held_numbers U.threads ++ numbers_of (ended_by T es)) ≡ 0

-- no signal is lost or doubled: after any journal each accepted one waits, is held or was ended, once
abbrev pub EachSignalHasOneFate : Type 0
EachSignalHasOneFate = (T U : Table) (es : List Entry) (rs : List Reply) → IsStart T → Replay T es rs U → OneFate T es U

-- a number has the one fate that the first entry which ended it gave it, else Pending
abbrev pub FatesAgree : Type 0
FatesAgree = (T U : Table) (es : List Entry) (rs : List Reply) → IsStart T → Replay T es rs U → (n : ℕ) → 1 ≤ n → n ≤ U.accepted
    → HasFate (ended_by T es) U n (unwrap_or (ended_as (ended_by T es) n) Pending) × ((f : Fate) → HasFate (ended_by T es) U n f → f ≡ unwrap_or (ended_as (ended_by T es) n) Pending)

-- what an entry ended isn't pending
abbrev pub EndedIsNotPending : Type 0
EndedIsNotPending = (T U : Table) (es : List Entry) (rs : List Reply) → Replay T es rs U → (n : ℕ) → ended_as (ended_by T es) n ≢ Some Pending

-- pending, merged, delivered, suppressed and flushed together are as many as were accepted
abbrev pub FatesSumToAccepted : Type 0
FatesSumToAccepted = (T U : Table) (es : List Entry) → let t = totals T es U in t.pending + t.merged + t.delivered + t.suppressed + t.flushed ≡ t.accepted

-- One wait for each report

-- no number is consumed twice
abbrev pub NoReportIsConsumedTwice : Type 0
NoReportIsConsumedTwice = (T U : Table) (es : List Entry) (rs : List Reply) → IsStart T → Replay T es rs U → (r : ℕ) → occurs r (consumed_by es) ≤ 1

-- what the next entry consumes was raised before, for whom it is consumed
abbrev pub ConsumedWasRaised : Type 0
ConsumedWasRaised = (T U V : Table) (es : List Entry) (rs : List Reply) (e : Entry) (x : Reply) → IsStart T → Replay T es rs U → Step U e x V → (r : ℕ) → IsIn r (consumed e) → WasRaised r (consumer e) (raised_by T es)

-- the report, where there is one, was raised for this tracer or the starter, and no wait has consumed it
abbrev pub IsOpenReport : Table → List Entry → Option ℕ → Option Report → Type 0
IsOpenReport T es whom None = Unit {0}
IsOpenReport T es whom (Some r) = WasRaised r.number whom (raised_by T es) × (occurs r.number (consumed_by es) ≡ 0)

-- a report in a table was raised, for the tracer that traces its thread now, and no wait has consumed it; so was a note
abbrev pub ReportsAreOpen : Type 0
ReportsAreOpen = (T U : Table) (es : List Entry) (rs : List Reply) → IsStart T → Replay T es rs U
    → Each (λ t. IsOpenReport T es (tracer_of t.trace) t.report) U.threads × EachGroup (λ g. IsOpenReport T es None g.note) U.groups

-- A restart between two stops

-- the status of a ptrace-stop
abbrev pub IsStopStatus : Status → Type 0
IsStopStatus (status.Exited code) = ⊥
IsStopStatus (status.Killed signal) = ⊥
IsStopStatus status.Continued = ⊥
IsStopStatus _ = Unit {0}

-- the entry is a wait that consumed a stop report of this thread
abbrev pub ConsumesStop : Table → Entry → Thread → Type 0
ConsumesStop T e t =
    (which : Which) × (r : ℕ) × (x : Report) × (e.event ≡ event.Wait which) × (e.choice.report ≡ Some r)
    × (ready_thread T e.actor which r ≡ Some t) × (t.report ≡ Some x) × IsStopStatus x.status

-- a restart of the thread, the end of its tracer, or an exec of another thread of its group
abbrev pub IsRestart : ℕ → ℕ → ℕ → Table → ℕ → Event → Type 0
IsRestart id a g T b (event.Cont x s) = x ≡ id
IsRestart id a g T b (event.Listen x) = x ≡ id
IsRestart id a g T b (event.Detach x s) = x ≡ id
IsRestart id a g T b event.TracerExit = b ≡ a
IsRestart id a g T b (event.Exec x) = (x ≢ id) × ((t : Thread) × (thread_of T x ≡ Some t) × (t.group ≡ g))
IsRestart id a g T b _ = ⊥

-- or the group's death begins
abbrev pub Restarts : ℕ → ℕ → ℕ → Table → Entry → Type 0
Restarts id a g T e = IsRestart id a g T e.actor e.event ⊎ IsIn g (work_of T e).dying

-- one of the entries, at the table that it finds, is such a restart or begins the group's death
abbrev pub SomeRestarts : ℕ → ℕ → ℕ → Table → List Entry → Type 0
SomeRestarts id a g T [] = ⊥
SomeRestarts id a g T (e ∷ es) = Restarts id a g T e ⊎ SomeRestarts id a g (work_of T e).table es

-- between two tracers' waits that consume stop reports of one thread id, an entry restarts it in one of these ways
abbrev pub RestartStandsBetween : Type 0
RestartStandsBetween =
    (S T M U : Table) (first between : List Entry) (qs rs : List Reply) (e f : Entry) (x : Reply) (t u : Thread)
    → IsStart S → Replay S first qs T → Step T e x M → ConsumesStop T e t → Replay M between rs U → ConsumesStop U f u → u.id ≡ t.id
    → SomeRestarts t.id e.actor t.group M between

-- The killed only die

-- each thread of the group is told to leave or is dead, so none has an exit stop before it
abbrev pub OnlyDying : ℕ → Table → Type 0
OnlyDying g T = Each (λ t. t.group ≡ g → is_told t.life ≡ true) T.threads

-- after a KILL the groups that it was delivered to have only threads that were told to leave, or are dead
abbrev pub AfterAKillOnlyDying : Type 0
AfterAKillOnlyDying = (T U : Table) (es : List Entry) (rs : List Reply) → Replay T es rs U → (g : ℕ) → IsIn g (killed_by T es) → OnlyDying g U

-- First accepted, first taken

-- the queue is that of a thread whose id was given to another thread
abbrev pub PassesOn : Target → List ℕ → Type 0
PassesOn (target.Thread id) ids = IsIn id ids
PassesOn (target.Group g) ids = ⊥

-- of two takes of one signal from one queue the earlier has the lesser number
abbrev pub TakesAreInOrder : Type 0
TakesAreInOrder =
    (S T M U V : Table) (first between : List Entry) (qs rs : List Reply) (e f : Entry) (x y : Reply)
    → IsStart S → Replay S first qs T → Step T e x M → Replay M between rs U → Step U f y V
    → (a b : Taken) → taken T e ≡ Some a → taken U f ≡ Some b → a.signal ≡ b.signal → a.queue ≡ b.queue
    → (PassesOn a.queue (renamed_by M between) → ⊥) → a.number < b.number

-- What a kernel leans on

-- after any journal an id is one thread's alone, though a clone gives ids and execve(2) hands the leader's on
abbrev pub IdsAreDistinct : Type 0
IdsAreDistinct = (T U : Table) (es : List Entry) (rs : List Reply) → IsStart T → Replay T es rs U → DistinctIds U

-- what waits or is held was accepted
abbrev pub NumbersAreAccepted : Type 0
NumbersAreAccepted = (T U : Table) (es : List Entry) (rs : List Reply) → IsStart T → Replay T es rs U
    → (n : ℕ) → IsIn n (waiting_numbers U.waiting ++ held_numbers U.threads) → (1 ≤ n) × (n ≤ U.accepted)

-- what waits stands in order of acceptance
abbrev pub WaitingIsSorted : Type 0
WaitingIsSorted = (T U : Table) (es : List Entry) (rs : List Reply) → IsStart T → Replay T es rs U → IsSorted U.waiting

-- what one entry does to the two numbers
pub record IsBounded (T U : Table) : Type 0 where
  pub accepted_grows : T.accepted ≤ U.accepted
  pub accepts_few : U.accepted ≤ T.accepted + 1024
  pub raised_grows : T.raised ≤ U.raised
  pub raises_few : U.raised ≤ T.raised + 2048

-- each step of a journal accepts at most 1,024 signals and raises at most 2,048 reports; neither count falls
abbrev pub EntriesAreBounded : Type 0
EntriesAreBounded = (T U V : Table) (es : List Entry) (rs : List Reply) (e : Entry) (x : Reply) → IsStart T → Replay T es rs U → Step U e x V → IsBounded U V

-- table and entry together determine reply and table
abbrev pub StepsAreDetermined : Type 0
StepsAreDetermined = (T U V : Table) (e : Entry) (r q : Reply) → Step T e r U → Step T e q V → (r ≡ q) × (U ≡ V)

-- Causes and choices

-- want of memory, a full journal and a name that is never answered are no causes
pub record IsCause (why : Refusal) : Type 0 where
  pub memory : why ≢ NoMemory
  pub full : why ≢ JournalFull
  pub threaded : why ≢ ThreadedExec

-- the model itself refuses no event as NoMemory, JournalFull or ThreadedExec
abbrev pub CausesAreCauses : Type 0
CausesAreCauses = (T : Table) (a : ℕ) (e : Event) (why : Refusal) → cause_of T a e ≡ Some why → IsCause why

-- a table that leaves some id free
abbrev pub HasFreeId : Table → Type 0
HasFreeId T = length T.threads + length T.groups < 4194302

-- this product's choice is one that the model admits
abbrev pub PreferredIsAdmitted : Type 0
PreferredIsAdmitted = (T : Table) (a : ℕ) (e : Event) → HasFreeId T → DistinctIds T → IsSorted T.waiting → cause_of T a e ≡ None → quiet_of T a e ≡ None → Admits T a e (preferred T a e)

-- where the answer is Nothing, the model admits no choice: nobody can take, nothing is ready
abbrev pub NothingIsExact : Type 0
NothingIsExact = (T : Table) (a : ℕ) (e : Event) (c : Choice) → e ≢ event.TracerExit → quiet_of T a e ≡ Some reply.Nothing → Admits T a e c → ⊥

-- and tables of a journal leave some id free
abbrev pub SomeIdIsFree : Type 0
SomeIdIsFree = (T U : Table) (es : List Entry) (rs : List Reply) → IsStart T → Replay T es rs U → HasFreeId U
