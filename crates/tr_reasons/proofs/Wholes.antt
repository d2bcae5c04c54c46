-- A run that is explained, from its parts.
use Rattle.std.proofs.Common.{◌≡◌, ◌⊎◌, ap, ℕ, true, List, inl, inr, length, refl, Result, Ok, Err}
use Rattle.tr_reading.specs.declared.faults.ScenarioFault.{ScenarioFault}
use Rattle.tr_reading.specs.declared.faults.ScenarioFault.TheVariants.{NoMemory, ReadFault}
use Rattle.tr_reading.specs.declared.scenarios.Scenario.{Scenario}
use Rattle.tr_scenario.specs.Printing.{Prints}
use Rattle.tr_reading.specs.Scenarios.{scenario_of}
use Rattle.tr_scenario.specs.Serial.{run_text}
use Rattle.tr_scenario.specs.Sources.{Came, IsSound, IsToBlame, Shown}
use Rattle.tr_scenario.proofs.Wholes.{at, ended_at_fault, has_read}
use Rattle.tr_reasons.specs.Explained.{explained}
use Rattle.tr_reasons.specs.Explains.{Explains}
use Rattle.tr_reasons.specs.Private.{Refuses}

pub explains_printed : {K X : Type 0} (taken : K → List ℕ) (failures : K → ℕ) (old new : K) (r_old r_new : Shown) (bytes : List ℕ) (s : Scenario) (r : Result X ScenarioFault) →
    Came r_old r_new bytes → (length bytes ≡ 1048577) ⊎ (r_new.ended ≡ true) → IsSound r_old r_new → scenario_of bytes ≡ Ok s →
    Prints taken failures old new (run_text explained s) r → Explains (at r_old (taken old) (failures old)) (at r_new (taken new) (failures new)) r
explains_printed taken failures old new r_old r_new bytes s (Ok x) came end sound scenario p =
    (bytes, s, record { read = has_read r_old r_new (taken old) (taken new) (failures old) (failures new) bytes s came end sound scenario; text = p.0; failures = p.1 })
explains_printed taken failures old new r_old r_new bytes s (Err e) came end sound scenario p =
    (bytes, inr (inr (s, record { read = has_read r_old r_new (taken old) (taken new) (failures old) (failures new) bytes s came end sound scenario; front = p.0; cause = p.1 })))

-- the bytes were refused, or memory was
pub explains_refused : {K X : Type 0} (taken : K → List ℕ) (failures : K → ℕ) (old new : K) (r_old r_new : Shown) (bytes : List ℕ) (f : ScenarioFault) (r : Result X ScenarioFault) →
    Came r_old r_new bytes → (length bytes ≡ 1048577) ⊎ (r_new.ended ≡ true) → IsSound r_old r_new → (f ≡ NoMemory) ⊎ (scenario_of bytes ≡ Err f) →
    Refuses taken failures old new bytes f r → Explains (at r_old (taken old) (failures old)) (at r_new (taken new) (failures new)) r
explains_refused taken failures old new r_old r_new bytes f (Ok x) came end sound gives h = absurd h
explains_refused taken failures old new r_old r_new bytes f (Err e) came end sound gives (inl h) =
    (bytes, inr (inl (record { came = came; cause = inl (h.0, sound); untouched = record { taken = ap taken h.1; failures = ap failures h.1 } })))
explains_refused taken failures old new r_old r_new bytes f (Err e) came end sound (inl m) (inr h) = absurd (h.0 m)
explains_refused taken failures old new r_old r_new bytes f (Err e) came end sound (inr fault) (inr h) =
    (bytes, inl (f, record { came = came; sound = sound; ended = ended_at_fault bytes r_new.ended f end fault; fault = fault; told = h.1 }))

-- nothing was read
pub explains_unread : (X : Type 0) (old new : Shown) (taken : List ℕ) (failures : ℕ) (bytes : List ℕ) (e : ScenarioFault) →
    Came old new bytes → ((e ≡ NoMemory) × IsSound old new) ⊎ ((e ≡ ReadFault) × IsToBlame old new) → Explains {X = X} (at old taken failures) (at new taken failures) (Err e)
explains_unread X old new taken failures bytes e came cause =
    (bytes, inr (inl (record { came = came; cause = cause; untouched = record { taken = refl; failures = refl } })))
