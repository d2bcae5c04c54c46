-- What contracts see of a kernel, and what a step may answer.
use Rattle.std.specs.Prelude.{◌≡◌, ℕ, ◌+◌, ◌≤◌, ◌<◌, List, [], ◌∷◌, ◌++◌, length, Some, None, IsTrue}
use Rattle.tr_model.specs.Entries.{Entry}
use Rattle.tr_model.specs.declared.events.Event.{Event}
use Rattle.tr_model.specs.declared.fates.Fate.{Fate}
use Rattle.tr_model.specs.declared.replies.Refusal.{Refusal}
use Rattle.tr_model.specs.declared.replies.Refusal.TheVariants.{NoMemory, JournalFull}
use Rattle.tr_model.specs.declared.replies.Reply.{Reply}
use Rattle.tr_model.specs.Causes.{cause_of, quiet_of}
use Rattle.tr_model.specs.Journals.{Replay, ended_by}
use Rattle.tr_model.specs.Preferred.{preferred}
use Rattle.tr_model.specs.Steps.{Step}
use Rattle.tr_model.specs.Tables.{Table}
use Rattle.tr_starts.specs.declared.starts.Start.{Start}
use Rattle.tr_starts.specs.Starts.{is_good, table_of}
use Rattle.tr_kernel.specs.Fates.{fates_to}

-- what it started from, the table and the journal that it holds, the reply of each entry, the fate of each accepted number
pub record State : Type 0 where
  pub start : Start
  pub table : Table
  pub journal : List Entry
  pub replies : List Reply
  pub fates : List Fate

-- a kernel that made no step yet
abbrev pub opened : Start → State
opened s = record { start = s; table = table_of s; journal = []; replies = []; fates = [] }

-- With its replies the journal replays from the starting table to the table held, and the fates are those that it gives.
pub record IsHistory (k : State) : Type 0 where
  pub good : IsTrue (is_good k.start)
  pub replayed : Replay (table_of k.start) k.journal k.replies k.table
  pub fates : k.fates ≡ fates_to (ended_by (table_of k.start) k.journal) k.table.accepted

-- Steps

-- the event has an answer without an entry
pub record IsQuiet (old : State) (actor : ℕ) (event : Event) (reply : Reply) (new : State) : Type 0 where
  pub no_cause : cause_of old.table actor event ≡ None
  pub quiet : quiet_of old.table actor event ≡ Some reply
  pub same : new ≡ old

-- the entry of an event, with this product's choice
abbrev pub entry_of : State → ℕ → Event → Entry
entry_of old actor event = record { actor = actor; event = event; choice = preferred old.table actor event }

-- the event makes one entry, which is a step
pub record IsEntered (old : State) (actor : ℕ) (event : Event) (reply : Reply) (new : State) : Type 0 where
  pub no_cause : cause_of old.table actor event ≡ None
  pub step : Step old.table (entry_of old actor event) reply new.table
  pub start : new.start ≡ old.start
  pub journal : new.journal ≡ old.journal ++ entry_of old actor event ∷ []
  pub replies : new.replies ≡ old.replies ++ reply ∷ []

-- the entry is made, which is a step
pub record IsMade (old : State) (entry : Entry) (reply : Reply) (new : State) : Type 0 where
  pub step : Step old.table entry reply new.table
  pub start : new.start ≡ old.start
  pub journal : new.journal ≡ old.journal ++ entry ∷ []
  pub replies : new.replies ≡ old.replies ++ reply ∷ []

-- an entry that is due isn't made: the journal is full, or memory was refused where it isn't
abbrev pub IsWithheld : State → Refusal → Type 0
IsWithheld old JournalFull = old.table.entries ≤ length old.journal
IsWithheld old NoMemory = length old.journal < old.table.entries
IsWithheld old why = ⊥

-- the event is to make an entry
pub record IsDue (old : State) (actor : ℕ) (event : Event) : Type 0 where
  pub no_cause : cause_of old.table actor event ≡ None
  pub not_quiet : quiet_of old.table actor event ≡ None

-- for a cause; for a full journal, or for want of memory where it isn't full
abbrev pub IsRefusal : State → ℕ → Event → Refusal → Type 0
IsRefusal old actor event JournalFull = IsDue old actor event × (old.table.entries ≤ length old.journal)
IsRefusal old actor event NoMemory = IsDue old actor event × (length old.journal < old.table.entries)
IsRefusal old actor event why = cause_of old.table actor event ≡ Some why

-- an entry accepts at most 1,024 signals
pub record AcceptsFew (old new : Table) : Type 0 where
  pub grows : old.accepted ≤ new.accepted
  pub few : new.accepted ≤ old.accepted + 1024
