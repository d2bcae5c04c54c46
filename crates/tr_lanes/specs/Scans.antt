-- What the scans answer, row by row. A row is a word of signals.
use Rattle.std.specs.Prelude.{ℕ, Bool, not, ◌==◌, bit_or, bit_and, List, [], ◌∷◌}
use Rattle.std.specs.Int.{bit_not, w64}
use lib.Lanes.{zip2}
use Rattle.tr_sigset.specs.Sets.{in_word}

-- whether a row has a signal
abbrev pub holds : ℕ → ℕ → Bool
holds signal row = in_word row signal

-- whether a row lacks a signal
abbrev pub lacks : ℕ → ℕ → Bool
lacks signal row = not (in_word row signal)

-- what one thread can take: what waits in its own queue or the shared one, isn't blocked, and stands in the row
-- of whether it is runnable
abbrev pub ready_word : ℕ → ℕ → ℕ → ℕ → ℕ
ready_word own blocked shared runnable = bit_and (bit_and (bit_or own shared) (bit_not w64 blocked)) runnable

-- the same of each thread
abbrev pub ready_words : List ℕ → List ℕ → ℕ → List ℕ → List ℕ
ready_words own blocked shared runnable =
    zip2 (λ w r. bit_and w r) (zip2 (λ o b. bit_and (bit_or o shared) (bit_not w64 b)) own blocked) runnable

-- whether a thread can take anything
abbrev pub is_ready : ℕ → Bool
is_ready word = not (word == 0)

-- the union of all rows
abbrev pub union_of : List ℕ → ℕ
union_of [] = 0
union_of (row ∷ rows) = bit_or row (union_of rows)
