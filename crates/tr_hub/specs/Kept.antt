-- What the lock keeps: a history, and answers without an entry that were right where they were given.
use Rattle.std.specs.Prelude.{◌≡◌, ℕ, ◌≤◌, List, [], ◌∷◌, length, Some, None}
use Rattle.tr_model.specs.Entries.{Entry}
use Rattle.tr_model.specs.declared.events.Event.{Event}
use Rattle.tr_model.specs.declared.replies.Refusal.{Refusal}
use Rattle.tr_model.specs.declared.replies.Refusal.TheVariants.{NoMemory, JournalFull}
use Rattle.tr_model.specs.Causes.{cause_of, quiet_of}
use Rattle.tr_model.specs.Tables.{Table}
use Rattle.tr_starts.specs.Starts.{table_of}
use Rattle.tr_kernel.specs.Positions.{table_at}
use Rattle.tr_kernel.specs.States.{State, IsHistory}
use Rattle.tr_kernel.specs.declared.answers.Answer.{Answer}
use Rattle.tr_kernel.specs.declared.answers.Answer.TheVariants.{Entered, Read, Refused}
use Rattle.tr_hub.specs.declared.answers.Asked.{Asked}

-- the kernel behind the lock, and every answer without an entry, in order
pub record HeldState : Type 0 where
  pub kernel : State
  pub asked : List Asked

-- what lies behind the lock: what it keeps, and for how many answers more there is room
pub record Locked : Type 0 where
  pub kernel : State
  pub asked : List Asked
  pub room : ℕ

-- what of it is kept
abbrev pub kept_in : Locked → HeldState
kept_in l = record { kernel = l.kernel; asked = l.asked }

-- the model refuses so, on this table and after so many entries
abbrev pub Refuses : Table → ℕ → ℕ → Event → Refusal → Type 0
Refuses T position actor event JournalFull = (cause_of T actor event ≡ None) × (quiet_of T actor event ≡ None) × (position ≡ T.entries)
Refuses T position actor event NoMemory = ⊥
Refuses T position actor event why = cause_of T actor event ≡ Some why

-- the model answers so without an entry
abbrev pub Answers : Table → ℕ → ℕ → Event → Answer → Type 0
Answers T position actor event (Entered receipt) = ⊥
Answers T position actor event (Read reply) = (cause_of T actor event ≡ None) × (quiet_of T actor event ≡ Some reply)
Answers T position actor event (Refused why) = Refuses T position actor event why

-- the answer is the model's on the table after as many entries as its position says
pub record IsLegal (T : Table) (es : List Entry) (asked : Asked) : Type 0 where
  pub within : asked.position ≤ length es
  pub answered : Answers (table_at T es asked.position) asked.position asked.actor asked.event asked.answer

-- every one of them is
abbrev pub AllLegal : Table → List Entry → List Asked → Type 0
AllLegal T es [] = Unit {0}
AllLegal T es (asked ∷ rest) = IsLegal T es asked × AllLegal T es rest

-- positions never fall along the list, from one bound to another
abbrev pub Rises : ℕ → List Asked → ℕ → Type 0
Rises low [] high = low ≤ high
Rises low (asked ∷ rest) high = (low ≤ asked.position) × Rises asked.position rest high

-- what the lock keeps
pub record IsKept (h : HeldState) : Type 0 where
  pub history : IsHistory h.kernel
  pub within : length h.kernel.journal ≤ h.kernel.table.entries
  pub legal : AllLegal (table_of h.kernel.start) h.kernel.journal h.asked
  pub rising : Rises 0 h.asked (length h.kernel.journal)

-- some kernel with a history answers so without an entry
pub record IsPossible (actor : ℕ) (event : Event) (answer : Answer) : Type 0 where
  pub kernel : State
  pub history : IsHistory kernel
  pub answered : Answers kernel.table (length kernel.journal) actor event answer
