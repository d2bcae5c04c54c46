-- The laws of a kernel, at positions of its journal.
use Rattle.std.specs.Prelude.{◌≡◌, ℕ, ◌<◌, ◌≤◌, List, length, Option, Some, None}
use Rattle.tr_tracee.specs.declared.thread.Thread.{Thread}
use Rattle.tr_model.specs.Choices.{Choice}
use Rattle.tr_model.specs.Entries.{Entry}
use Rattle.tr_model.specs.declared.events.Event.{Event}
use Rattle.tr_model.specs.declared.events.Event.TheVariants as event
use Rattle.tr_model.specs.Journals.{IsIn, Taken, WasRaised, consumer, raised_by, renamed_by, taken}
use Rattle.tr_model.specs.Laws.{ConsumesStop, OnlyDying, PassesOn, Restarts}
use Rattle.tr_model.specs.Steps.{work_of}
use Rattle.tr_model.specs.Tables.{Table}
use Rattle.tr_kernel.specs.Positions.{before, between, entry_at, table_at, table_before}

-- One wait for each report

-- a wait of a tracer or of the starter
abbrev pub IsWait : Event → Type 0
IsWait (event.Wait which) = Unit {0}
IsWait (event.StarterWait which flags) = Unit {0}
IsWait _ = ⊥

-- the entry at the position is a wait of a tracer or the starter
abbrev pub WaitsAt : List Entry → ℕ → Type 0
WaitsAt es p = (e : Entry) × (entry_at es p ≡ Some e) × IsWait e.event

-- the report that a wait consumed is in its choice
abbrev pub report_by : Event → Choice → Option ℕ
report_by (event.Wait which) c = c.report
report_by (event.StarterWait which flags) c = c.report
report_by _ c = None

-- the report that an entry consumed, if it is a wait
abbrev pub report_of : Option Entry → Option ℕ
report_of None = None
report_of (Some e) = report_by e.event e.choice

-- the report that the wait at a position consumed
abbrev pub consumed_at : List Entry → ℕ → Option ℕ
consumed_at es p = report_of (entry_at es p)

-- an entry before the position raised the report, for whom the wait there consumes it
abbrev pub RaisedBefore : Table → List Entry → ℕ → ℕ → Type 0
RaisedBefore T es p r = (e : Entry) × (entry_at es p ≡ Some e) × WasRaised r (consumer e) (raised_by T (before es p))

-- A restart between two stops

-- the entry at a position is a wait by which a tracer consumed a stop report of this thread
abbrev pub StopsAt : Table → List Entry → ℕ → Entry → Thread → Type 0
StopsAt T es p e t = (entry_at es p ≡ Some e) × ConsumesStop (table_before T es p) e t

-- the entries at two positions are such waits for one thread id, the first before the second
abbrev pub TwoStops : Table → List Entry → ℕ → ℕ → Type 0
TwoStops T es i j = (i < j) × ((e f : Entry) × (t u : Thread) × StopsAt T es i e t × StopsAt T es j f u × (u.id ≡ t.id))

-- the entry at a position restarts the thread, which was of this group and whose tracer was a, or breaks its stop
abbrev pub RestartsAt : Table → List Entry → ℕ → ℕ → ℕ → ℕ → Type 0
RestartsAt T es k id a g = (e : Entry) × (entry_at es k ≡ Some e) × Restarts id a g (table_before T es k) e

-- the entry at k lies between and restarts the thread whose stop was consumed at i
pub record RestartBetween (T : Table) (es : List Entry) (i j k : ℕ) : Type 0 where
  pub later : i < k
  pub earlier : k < j
  pub restarts : (e : Entry) (t : Thread) → StopsAt T es i e t → RestartsAt T es k t.id e.actor t.group

-- The killed only die

-- the entry at a position delivers a KILL to this group
abbrev pub KillsAt : Table → List Entry → ℕ → ℕ → Type 0
KillsAt T es p g = (e : Entry) × (entry_at es p ≡ Some e) × IsIn g (work_of (table_before T es p) e).killed

-- a KILL, and a position from its own up to the journal's length
abbrev pub KilledBy : Table → List Entry → ℕ → ℕ → Type 0
KilledBy T es i j = ((g : ℕ) × KillsAt T es i g) × (i ≤ j) × (j ≤ length es)

-- each thread of a group that the KILL was delivered to is told to leave, or dead
abbrev pub OnlyDyingAt : Table → List Entry → ℕ → ℕ → Type 0
OnlyDyingAt T es i j = (g : ℕ) → KillsAt T es i g → OnlyDying g (table_at T es j)

-- First accepted, first taken

-- the entry at a position took this
abbrev pub TakesAt : Table → List Entry → ℕ → Taken → Type 0
TakesAt T es p k = (e : Entry) × (entry_at es p ≡ Some e) × (taken (table_before T es p) e ≡ Some k)

-- no entry between gave the queue's thread id to another thread
abbrev pub Keeps : Table → List Entry → ℕ → ℕ → Taken → Type 0
Keeps T es i j k = PassesOn k.queue (renamed_by (table_at T es i) (between es i j)) → ⊥

-- the entries at two positions, the first before the second, took instances of one signal from one queue
abbrev pub TwoTakes : Table → List Entry → ℕ → ℕ → Type 0
TwoTakes T es i j = (i < j) × ((k l : Taken) × TakesAt T es i k × TakesAt T es j l × (k.signal ≡ l.signal) × (k.queue ≡ l.queue) × Keeps T es i j k)

-- the instance that was taken first has the lesser number
abbrev pub TakenInOrder : Table → List Entry → ℕ → ℕ → Type 0
TakenInOrder T es i j = (k l : Taken) → TakesAt T es i k → TakesAt T es j l → k.number < l.number
