-- A run that is drawn, from its parts.
use Rattle.std.proofs.Common.{◌≡◌, ◌⊎◌, ℕ, true, List, inl, inr, length, Result, Ok, Err}
use Rattle.tr_reading.specs.declared.faults.ScenarioFault.{ScenarioFault}
use Rattle.tr_reading.specs.declared.faults.ScenarioFault.TheVariants.{NoMemory}
use Rattle.tr_reading.specs.declared.scenarios.Scenario.{Scenario}
use Rattle.tr_scenario.specs.Printing.{Prints}
use Rattle.tr_reading.specs.Scenarios.{scenario_of}
use Rattle.tr_scenario.specs.Sources.{Came, IsSound, Shown}
use Rattle.tr_scenario.proofs.Wholes.{at, has_read, refusal}
use Rattle.tr_picture.specs.Draws.{Draws}
use Rattle.tr_picture.specs.Pictures.{picture}

pub draws_refused : (X : Type 0) (old new : Shown) (taken : List ℕ) (failures : ℕ) (bytes : List ℕ) (e : ScenarioFault) →
    Came old new bytes → (length bytes ≡ 1048577) ⊎ (new.ended ≡ true) → IsSound old new → (e ≡ NoMemory) ⊎ (scenario_of bytes ≡ Err e) →
    Draws {X = X} (at old taken failures) (at new taken failures) (Err e)
draws_refused X old new taken failures bytes e came end sound f = elim (refusal old new taken failures bytes e came end sound f) [ inl x ↦ (bytes, inl x) | inr x ↦ (bytes, inr (inl x)) ]

pub draws_printed : {K X : Type 0} (taken : K → List ℕ) (failures : K → ℕ) (old new : K) (r_old r_new : Shown) (bytes : List ℕ) (s : Scenario) (r : Result X ScenarioFault) →
    Came r_old r_new bytes → (length bytes ≡ 1048577) ⊎ (r_new.ended ≡ true) → IsSound r_old r_new → scenario_of bytes ≡ Ok s →
    Prints taken failures old new (picture s) r → Draws (at r_old (taken old) (failures old)) (at r_new (taken new) (failures new)) r
draws_printed taken failures old new r_old r_new bytes s (Ok x) came end sound scenario p =
    (bytes, s, record { read = has_read r_old r_new (taken old) (taken new) (failures old) (failures new) bytes s came end sound scenario; picture = p.0; failures = p.1 })
draws_printed taken failures old new r_old r_new bytes s (Err e) came end sound scenario p =
    (bytes, inr (inr (s, record { read = has_read r_old r_new (taken old) (taken new) (failures old) (failures new) bytes s came end sound scenario; front = p.0; cause = p.1 })))
