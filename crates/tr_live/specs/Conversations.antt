-- A dialogue, by what its reader and its writer show.
use Rattle.std.specs.Prelude.{◌≡◌, ◌⊎◌, ℕ, ◌≤◌, ◌^◌, true, List, ◌++◌, length, Result, Ok, Err}
use Rattle.tr_status.specs.Writing.{IsFront}
use Rattle.tr_reading.specs.declared.faults.ScenarioFault.{ScenarioFault}
use Rattle.tr_reading.specs.declared.faults.ScenarioFault.TheVariants.{ReadFault, TooLarge}
use Rattle.tr_scenario.specs.Printing.{IsHalt}
use Rattle.tr_scenario.specs.Serial.{Devices}
use Rattle.tr_scenario.specs.Sources.{IsSound, IsToBlame}
use Rattle.tr_live.specs.Dialogues.{IsDialogue, IsSaid, silence}

-- these bytes came, and the reader told its end
pub record HasEnded (old new : Devices) (bytes : List ℕ) : Type 0 where
  pub came : new.reader.given ≡ old.reader.given ++ bytes
  pub sound : IsSound old.reader new.reader
  pub ended : new.reader.ended ≡ true

-- all that came was answered
pub record IsAnswered (old new : Devices) (bytes : List ℕ) : Type 0 where
  pub ended : HasEnded old new bytes
  pub said : List ℕ
  pub dialogue : IsDialogue bytes said
  pub text : new.taken ≡ old.taken ++ said
  pub failures : new.failures ≡ old.failures

-- the reader failed, and each line that it gave before was answered
pub record IsBroken (old new : Devices) (bytes : List ℕ) : Type 0 where
  pub came : new.reader.given ≡ old.reader.given ++ bytes
  pub cause : IsToBlame old.reader new.reader
  pub said : List ℕ
  pub answers : IsSaid silence bytes said
  pub text : new.taken ≡ old.taken ++ said
  pub failures : new.failures ≡ old.failures

-- more came than a dialogue takes, and each line that ended was answered
pub record IsTooLong (old new : Devices) (bytes : List ℕ) : Type 0 where
  pub came : new.reader.given ≡ old.reader.given ++ bytes
  pub long : 2 ^ 63 ≤ length bytes
  pub sound : IsSound old.reader new.reader
  pub said : List ℕ
  pub answers : IsSaid silence bytes said
  pub text : new.taken ≡ old.taken ++ said
  pub failures : new.failures ≡ old.failures

-- memory was refused or the writer failed, and a front of the answers was written
pub record IsHalted (old new : Devices) (bytes : List ℕ) (e : ScenarioFault) : Type 0 where
  pub came : new.reader.given ≡ old.reader.given ++ bytes
  pub sound : IsSound old.reader new.reader
  pub said : List ℕ
  pub dialogue : IsDialogue bytes said
  pub front : IsFront old.taken new.taken said
  pub cause : IsHalt e old.failures new.failures

-- a dialogue comes to its end, or halts
abbrev pub Converses : {X : Type 0} → Devices → Devices → Result X ScenarioFault → Type 0
Converses old new (Ok x) = (bytes : List ℕ) × IsAnswered old new bytes
Converses old new (Err e) = (bytes : List ℕ) × (((e ≡ ReadFault) × IsBroken old new bytes) ⊎ (((e ≡ TooLarge) × IsTooLong old new bytes) ⊎ IsHalted old new bytes e))
