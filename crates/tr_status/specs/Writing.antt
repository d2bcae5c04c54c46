-- What a sink takes, and what is written to it.
use Rattle.std.specs.Prelude.{◌≡◌, ℕ, ◌+◌, ◌≤◌, List, [], ◌∷◌, ◌++◌, length, take, Option, Some, None, Result, Ok, Err}
use Rattle.std.specs.Borrow.{Bor}

-- one put: the first bytes were taken, one at least; or none, and the sink failed once more
abbrev pub Puts : {K : Type 0} → (K → List ℕ) → (K → ℕ) → K → K → List ℕ → Option ℕ → Type 0
Puts taken failures old new bytes (Some n) = (1 ≤ n) × (n ≤ length bytes) × (taken new ≡ taken old ++ take n bytes) × (failures new ≡ failures old)
Puts taken failures old new bytes None = (taken new ≡ taken old) × (failures new ≡ failures old + 1)

-- new is old and a front of the text, which goes on with what is left
abbrev pub IsFront : List ℕ → List ℕ → List ℕ → Type 0
IsFront old new text = (left : List ℕ) × (new ++ left ≡ old ++ text) × (length left ≤ length text)

-- the pieces, one after another
abbrev pub joined : List (Bor (List ℕ)) → List ℕ
joined [] = []
joined (p ∷ ps) = p.now ++ joined ps

-- the text was written; or the sink failed once, and a front of the text was written
abbrev pub Writes : {K X E : Type 0} → (K → List ℕ) → (K → ℕ) → K → K → List ℕ → Result X E → Type 0
Writes taken failures old new text (Ok x) = (taken new ≡ taken old ++ text) × (failures new ≡ failures old)
Writes taken failures old new text (Err e) = IsFront (taken old) (taken new) text × (failures new ≡ failures old + 1)
