-- A set of signals as sixteen hexadecimal digits.
use Rattle.std.specs.Prelude.{ℕ, ◌+◌, ◌*◌, nat_lt, Bool, List, [], ◌∷◌, map, if◌then◌else◌}
use Rattle.tr_sigset.specs.Sets.{in_word}

-- 1 for a member, else 0
abbrev pub member : (ℕ → Bool) → ℕ → ℕ
member set n = if set n then 1 else 0

-- digit k, counted from the lowest: the sum of 8, 4, 2 and 1 over the members among its four signals
abbrev pub digit_value : (ℕ → Bool) → ℕ → ℕ
digit_value set k = 8 * member set (4 * k + 4) + 4 * member set (4 * k + 3) + 2 * member set (4 * k + 2) + member set (4 * k + 1)

-- a digit as text, in lower case
abbrev pub digit_text : ℕ → ℕ
digit_text v = if nat_lt v 10 then 48 + v else 87 + v

-- the digits of a set, the highest first
abbrev pub set_digits : (ℕ → Bool) → List ℕ
set_digits set = map (λ k. digit_text (digit_value set k)) (15 ∷ 14 ∷ 13 ∷ 12 ∷ 11 ∷ 10 ∷ 9 ∷ 8 ∷ 7 ∷ 6 ∷ 5 ∷ 4 ∷ 3 ∷ 2 ∷ 1 ∷ 0 ∷ [])

-- the digits of the set that a word is
abbrev pub hex_digits : ℕ → List ℕ
hex_digits word = set_digits (in_word word)
