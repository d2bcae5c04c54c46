-- Sets of the signals 1 to 64, each kept as a word of 64 bits.
use Rattle.std.specs.Prelude.{ℕ, ◌-◌, ◌^◌, Bool, ◌&&◌, ◌==◌, nat_le, bit_and}
use Rattle.std.specs.Int.{bit_at, bit_not, w64}
use Rattle.tr_sigset.specs.declared.sets.SigSet.{SigSet}

-- whether n is a signal and stands in the word: signal n is bit n - 1
unfoldable pub in_word : ℕ → ℕ → Bool
in_word word n = (nat_le 1 n && nat_le n 64) && (bit_at word (n - 1) == 1)

abbrev pub word_of : SigSet → ℕ
word_of set = set.bits

abbrev pub of_word : ℕ → SigSet
of_word word = record { bits = word }

-- whether n is a member of the set
abbrev pub has : SigSet → ℕ → Bool
has set n = in_word (word_of set) n

-- the word with signal n taken out
abbrev pub word_without : ℕ → ℕ → ℕ
word_without n word = bit_and word (bit_not w64 (2 ^ (n - 1)))

-- the set with signal n taken out
abbrev pub without : ℕ → SigSet → SigSet
without n set = of_word (word_without n (word_of set))
