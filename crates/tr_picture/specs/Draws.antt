-- A run that is drawn, by what its reader and its writer show.
use Rattle.std.specs.Prelude.{◌≡◌, ◌⊎◌, ℕ, List, ◌++◌, Result, Ok, Err}
use Rattle.tr_status.specs.Writing.{IsFront}
use Rattle.tr_reading.specs.declared.faults.ScenarioFault.{ScenarioFault}
use Rattle.tr_reading.specs.declared.scenarios.Scenario.{Scenario}
use Rattle.tr_scenario.specs.Printing.{IsHalt}
use Rattle.tr_scenario.specs.Serial.{Devices, HasRead, IsRefused, IsUnread}
use Rattle.tr_figures.specs.Elements.{Elements, printed}
use Rattle.tr_picture.specs.Pictures.{picture}

-- the picture of the run was written
pub record IsWhole (old new : Devices) (bytes : List ℕ) (s : Scenario) : Type 0 where
  pub read : HasRead old new bytes s
  pub picture : new.taken ≡ old.taken ++ picture s
  pub failures : new.failures ≡ old.failures

-- a front of it was written, and then memory was refused or the writer failed
pub record IsHalted (old new : Devices) (bytes : List ℕ) (s : Scenario) (e : ScenarioFault) : Type 0 where
  pub read : HasRead old new bytes s
  pub front : IsFront old.taken new.taken (picture s)
  pub cause : IsHalt e old.failures new.failures

-- a run comes to its end, or its fault is one of the three
abbrev pub Draws : {X : Type 0} → Devices → Devices → Result X ScenarioFault → Type 0
Draws old new (Ok x) = (bytes : List ℕ) × (s : Scenario) × IsWhole old new bytes s
Draws old new (Err e) = (bytes : List ℕ) × (IsRefused old new bytes e ⊎ (IsUnread old new bytes e ⊎ ((s : Scenario) × IsHalted old new bytes s e)))

-- the text of each picture is that of elements
abbrev pub ArePictures : Type 0
ArePictures = (s : Scenario) → (es : Elements) × (picture s ≡ printed es)
