-- Texts, as lists of the codes of their bytes.
use Rattle.std.specs.Prelude.{ℕ, List, [], ◌∷◌, ◌++◌}

-- one text after another
abbrev pub texts : List (List ℕ) → List ℕ
texts [] = []
texts (x ∷ xs) = x ++ texts xs

-- one text after another, and then a last one
abbrev pub before : List (List ℕ) → List ℕ → List ℕ
before [] last = last
before (x ∷ xs) last = x ++ before xs last
