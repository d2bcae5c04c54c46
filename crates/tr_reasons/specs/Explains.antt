-- A run that is explained, by what its reader and its writer show.
use Rattle.std.specs.Prelude.{◌≡◌, ◌⊎◌, ℕ, true, List, [], ◌∷◌, Result, Ok, Err, codes}
use Rattle.tr_reading.specs.declared.faults.ScenarioFault.{ScenarioFault}
use Rattle.tr_reading.specs.declared.faults.ScenarioFault.TheVariants.{TooLarge}
use Rattle.tr_reading.specs.declared.scenarios.Scenario.{Scenario}
use Rattle.tr_reading.specs.Faults.{scenario_fault_name}
use Rattle.tr_scenario.specs.Printing.{Prints}
use Rattle.tr_status.specs.Texts.{texts}
use Rattle.tr_reading.specs.Scenarios.{scenario_of}
use Rattle.tr_scenario.specs.Serial.{Devices, IsHalted, IsUnread, IsWhole}
use Rattle.tr_scenario.specs.Sources.{Came, IsSound}
use Rattle.tr_mistakes.specs.Scenarios.{scenario_mistake}
use Rattle.tr_mistakes.specs.Texts.{IsTold}
use Rattle.tr_reasons.specs.Explained.{explained}

-- the line of a fault of these bytes
abbrev pub IsFaultLine : List ℕ → ScenarioFault → List ℕ → Type 0
IsFaultLine bytes f text = (told : List ℕ) × IsTold scenario_mistake 1048576 bytes f told × (text ≡ texts (scenario_fault_name f ∷ told ∷ codes "\n" ∷ []))

-- the line of a fault was written, and it is told; or a front of the line, and then the run halted
abbrev pub TellsFault : {K : Type 0} → (K → List ℕ) → (K → ℕ) → K → K → List ℕ → ScenarioFault → ScenarioFault → Type 0
TellsFault taken failures old new bytes f e =
    (line : List ℕ)
    × IsFaultLine bytes f line
    × (((e ≡ f) × Prints {X = Unit {0}} taken failures old new line (Ok tt)) ⊎ Prints {X = Unit {0}} taken failures old new line (Err e))

-- the bytes are refused, and their first fault was told
pub record IsRefused (old new : Devices) (bytes : List ℕ) (f e : ScenarioFault) : Type 0 where
  pub came : Came old.reader new.reader bytes
  pub sound : IsSound old.reader new.reader
  pub ended : (f ≡ TooLarge) ⊎ (new.reader.ended ≡ true)
  pub fault : scenario_of bytes ≡ Err f
  pub told : TellsFault (λ d. d.taken) (λ d. d.failures) old new bytes f e

-- a run comes to its end, or its fault is one of the three
abbrev pub Explains : {X : Type 0} → Devices → Devices → Result X ScenarioFault → Type 0
Explains old new (Ok x) = (bytes : List ℕ) × (s : Scenario) × IsWhole explained old new bytes s
Explains old new (Err e) = (bytes : List ℕ) × (((f : ScenarioFault) × IsRefused old new bytes f e) ⊎ (IsUnread old new bytes e ⊎ ((s : Scenario) × IsHalted explained old new bytes s e)))
