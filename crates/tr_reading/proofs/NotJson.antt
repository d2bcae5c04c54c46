-- NotJson is answered exactly where there is no value.
use Rattle.std.proofs.Common.{◌≡◌, ◌≤◌, ℕ, List, refl, inl, inr, length, Bool, true, false, Result, Ok, Err, if◌then◌else◌, nat_le, arith}
use Rattle.std.proofs.lemmas.Bool.Decides.{nat_tests}
use Rattle.serde_json.specs.Data.{Data}
use Rattle.tr_reading.specs.declared.faults.ScenarioFault.{ScenarioFault}
use Rattle.tr_reading.specs.declared.faults.ScenarioFault.TheVariants.{NotJson, TooLarge}
use Rattle.tr_reading.specs.Fields.{◌>>=◌, Gives}
use Rattle.tr_reading.specs.Scenarios.{HasNoValue, IsExact, json_of, read_by}
use Rattle.tr_reading.proofs.Spared.{is_spared}

few : (n : ℕ) → n ≤ 1048576 → nat_le n 1048576 ≡ true
few n h = grind (arith, nat_tests)

from_few : (n : ℕ) → nat_le n 1048576 ≡ true → n ≤ 1048576
from_few n h = grind (arith, nat_tests)

valueless : {A : Type 0} (f : Data → Result A ScenarioFault) (bytes : List ℕ) → HasNoValue bytes → read_by f bytes ≡ Err NotJson
valueless f bytes h = rw (few (length bytes) h.0, h.1) refl

parts : {A : Type 0} (f : Data → Result A ScenarioFault) → ((d : Data) → is_spared (f d) ≡ true) → (fits : Bool) (j : Result Data ScenarioFault) → (if fits then (j >>= f) else Err TooLarge) ≡ Err NotJson → (fits ≡ true) × (j ≡ Err NotJson)
parts f spared true (Ok d) h = let k = spared d in let n = rw h at k in cc
parts f spared true (Err e) h = (refl, cc)
parts f spared false j h = cc

has_no_value : {A : Type 0} (f : Data → Result A ScenarioFault) → ((d : Data) → is_spared (f d) ≡ true) → (bytes : List ℕ) → read_by f bytes ≡ Err NotJson → HasNoValue bytes
has_no_value f spared bytes h =
    let p = parts f spared (nat_le (length bytes) 1048576) (json_of bytes) h in
    (from_few (length bytes) p.0, p.1)

-- where a value is read so that NotJson never comes
pub not_json_is_exact : {A : Type 0} (f : Data → Result A ScenarioFault) → ((d : Data) → is_spared (f d) ≡ true) → (bytes : List ℕ) (r : Result A ScenarioFault) → Gives (λ x. x) r (read_by f bytes) → IsExact bytes r
not_json_is_exact f spared bytes (Ok x) h = λ n. let k = valueless f bytes n in cc
not_json_is_exact f spared bytes (Err e) (inl m) = (λ j. cc, λ n. inr m)
not_json_is_exact f spared bytes (Err e) (inr h) = (λ j. has_no_value f spared bytes (rw j at h), λ n. inl (let k = valueless f bytes n in cc))
