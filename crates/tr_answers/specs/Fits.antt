-- Whether a printed answer fits the text that is expected.
use Rattle.std.specs.Prelude.{ℕ, ◌==◌, List, [], ◌∷◌, Bool, true, false, ◌&&◌, ◌||◌, codes}
use Rattle.std.specs.List.{list_any, slice_split}
use Rattle.std.specs.Str.{bytes_eq}

-- the words of a text: what stands between single spaces
abbrev pub words : List ℕ → List (List ℕ)
words text = slice_split (λ b. b == 32) text

-- the word that fits any word
abbrev pub any_word : List ℕ → Bool
any_word word = bytes_eq word (codes "_")

-- it is the word that is expected, or any word is
abbrev pub fits_word : List ℕ → List ℕ → Bool
fits_word expected word = any_word expected || bytes_eq expected word

-- word by word, and no word is left
abbrev pub fit : List (List ℕ) → List (List ℕ) → Bool
fit [] [] = true
fit (e ∷ es) (w ∷ ws) = fits_word e w && fit es ws
fit _ _ = false

-- the answer fits the text that is expected
abbrev pub fits : List ℕ → List ℕ → Bool
fits expected text = fit (words expected) (words text)

-- some word is `_`
abbrev pub is_open : List ℕ → Bool
is_open expected = list_any any_word (words expected)
