-- Bytes that are text, and bytes that are JSON.
use Rattle.std.proofs.Common.{◌≡◌, ◌<◌, ℕ, List, [], ◌∷◌, length, Result, Ok, Err, Bool, true, false, if◌then◌else◌, arith}
use Rattle.std.proofs.lemmas.Str.{IsUtf8-from_is_utf8, is_utf8-from_IsUtf8}
use Rattle.std.specs.Result.{IfErr}
use Rattle.std.specs.Str.{is_utf8}
use Rattle.serde_json.proofs.OnLiterals.{serde_json_on_literals}
use Rattle.serde_json.specs.Data.{Data}
use Rattle.tr_reading.specs.declared.faults.ScenarioFault.TheVariants.{NoMemory, NotJson}
use Rattle.tr_reading.specs.declared.faults.ScenarioFault.{ScenarioFault}
use Rattle.tr_reading.specs.Scenarios.{json_of}

-- the test and the fact
pub ruleset utf8_tests = (IsUtf8-from_is_utf8, is_utf8-from_IsUtf8)

not_json : (b : Bool) (d : Data) → (if b then Err NotJson else Err NotJson) ≡ Ok d → 0 < 0
not_json true d h = cc
not_json false d h = cc

-- no byte is no value
pub some_bytes : (bytes : List ℕ) (d : Data) → json_of bytes ≡ Ok d → 0 < length bytes
unfolding json_of serde_json_on_literals
some_bytes [] d h = not_json (is_utf8 []) d h
some_bytes (b ∷ bytes) d h = omega arith

-- what holds anyway holds where memory is refused
pub within : {T : Type 0} (r : Result T ScenarioFault) (P : Type 0) → P → IfErr r (λ e. e ≡ NoMemory → P)
within (Ok x) P p = tt
within (Err e) P p = λ h. p
