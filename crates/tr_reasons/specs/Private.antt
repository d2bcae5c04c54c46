-- What only private functions' contracts cite.
use Rattle.std.specs.Prelude.{◌≡◌, ◌≢◌, ◌⊎◌, ℕ, List, Result, Ok, Err}
use Rattle.tr_reading.specs.declared.faults.ScenarioFault.{ScenarioFault}
use Rattle.tr_reading.specs.declared.faults.ScenarioFault.TheVariants.{NoMemory}
use Rattle.tr_reasons.specs.Explains.{TellsFault}

-- bytes are refused: their fault is told, unless memory is refused before
abbrev pub Refuses : {K X : Type 0} → (K → List ℕ) → (K → ℕ) → K → K → List ℕ → ScenarioFault → Result X ScenarioFault → Type 0
Refuses taken failures old new bytes f (Ok x) = ⊥
Refuses taken failures old new bytes f (Err e) = ((e ≡ NoMemory) × (new ≡ old)) ⊎ ((f ≢ NoMemory) × TellsFault taken failures old new bytes f e)
