-- What is told of bytes that are refused.
use Rattle.std.specs.Prelude.{◌≡◌, ℕ, ◌==◌, nat_le, List, [], ◌∷◌, ◌++◌, Result, Ok, Err, codes, decimal, if◌then◌else◌, length}
use Rattle.serde_json.specs.Data.{Data}
use Rattle.tr_status.specs.Texts.{texts}
use Rattle.tr_reading.specs.declared.faults.ScenarioFault.{ScenarioFault}
use Rattle.tr_reading.specs.declared.faults.ScenarioFault.TheVariants.{NotJson}
use Rattle.tr_reading.specs.Scenarios.{json_of}

-- a place doesn't begin with a dot
abbrev pub undotted : List ℕ → List ℕ
undotted [] = []
undotted (b ∷ bs) = if b == 46 then codes ": " ++ bs else b ∷ bs

-- of what has a value
abbrev pub valued_mistake : (Data → List ℕ) → Result Data ScenarioFault → List ℕ
valued_mistake mistake (Err e) = []
valued_mistake mistake (Ok d) = undotted (mistake d)

-- of bytes, of which so many are allowed
abbrev pub mistake_in : (Data → List ℕ) → ℕ → List ℕ → List ℕ
mistake_in mistake most bytes =
    if nat_le (length bytes) most
    then valued_mistake mistake (json_of bytes)
    else texts (codes ": more than " ∷ decimal most ∷ codes " bytes" ∷ [])

-- where a text stops to be JSON
abbrev pub position_text : ℕ → ℕ → List ℕ
position_text line column = texts (codes ": line " ∷ decimal line ∷ codes ", column " ∷ decimal column ∷ [])

-- what is told of bytes that a fault refuses: some line and column, as serde_json counts them, of what is no JSON; else the first
-- mistake
abbrev pub IsTold : (Data → List ℕ) → ℕ → List ℕ → ScenarioFault → List ℕ → Type 0
IsTold mistake most bytes NotJson told = (line : ℕ) × (column : ℕ) × (told ≡ position_text line column)
IsTold mistake most bytes _ told = told ≡ mistake_in mistake most bytes
