-- A comparison, by what its reader and its writer show.
use Rattle.std.specs.Prelude.{◌≡◌, ◌⊎◌, ℕ, true, Bool, List, ◌++◌, Result, Ok, Err}
use Rattle.tr_kernel.specs.States.{State, opened}
use Rattle.tr_status.specs.Writing.{IsFront}
use Rattle.tr_reading.specs.declared.faults.ScenarioFault.{ScenarioFault}
use Rattle.tr_reading.specs.declared.faults.ScenarioFault.TheVariants.{TooLarge}
use Rattle.tr_scenario.specs.Printing.{IsHalt}
use Rattle.tr_scenario.specs.Serial.{Devices, IsUnread, IsUntouched}
use Rattle.tr_scenario.specs.Sources.{Came, IsSound}
use Rattle.tr_answers.specs.declared.records.Record.{Record}
use Rattle.tr_answers.specs.Comparisons.{Asked, Goes, Tells, asked_from}
use Rattle.tr_answers.specs.Records.{record_of}

-- the lines of the calls up to some place
abbrev pub Starts : State → List Asked → List ℕ → Type 0
Starts s qs text = (before : List Asked) × (rest : List Asked) × (u : State) × (qs ≡ before ++ rest) × Goes s before text u

-- the text of a comparison was written; or a front of one, of all calls or of those up to some place, and then the run halted
abbrev pub Prints : List ℕ → List ℕ → ℕ → ℕ → State → List Asked → Result Bool ScenarioFault → Type 0
Prints old new failures failures_new s qs (Ok agrees) = (text : List ℕ) × Tells s qs text agrees × (new ≡ old ++ text) × (failures_new ≡ failures)
Prints old new failures failures_new s qs (Err e) = (text : List ℕ) × (Starts s qs text ⊎ ((agrees : Bool) × Tells s qs text agrees)) × IsFront old new text × IsHalt e failures failures_new

-- the reader told its end, and its bytes are a record
pub record HasRead (old new : Devices) (bytes : List ℕ) (r : Record) : Type 0 where
  pub came : Came old.reader new.reader bytes
  pub sound : IsSound old.reader new.reader
  pub ended : new.reader.ended ≡ true
  pub record_read : record_of bytes ≡ Ok r

-- the bytes are refused, for their first fault
pub record IsRefused (old new : Devices) (bytes : List ℕ) (e : ScenarioFault) : Type 0 where
  pub came : Came old.reader new.reader bytes
  pub sound : IsSound old.reader new.reader
  pub ended : (e ≡ TooLarge) ⊎ (new.reader.ended ≡ true)
  pub fault : record_of bytes ≡ Err e
  pub untouched : IsUntouched old new

-- the bytes are a record, and what its comparison tells was printed
abbrev pub ComparesRecord : Devices → Devices → Result Bool ScenarioFault → Type 0
ComparesRecord old new x = (bytes : List ℕ) × (r : Record) × HasRead old new bytes r × Prints old.taken new.taken old.failures new.failures (opened r.start) (asked_from 1 r.steps) x

-- a record is compared; or the bytes are refused, or were not read
abbrev pub Compares : Devices → Devices → Result Bool ScenarioFault → Type 0
Compares old new (Ok agrees) = ComparesRecord old new (Ok agrees)
Compares old new (Err e) = ((bytes : List ℕ) × (IsRefused old new bytes e ⊎ IsUnread old new bytes e)) ⊎ ComparesRecord old new (Err e)
