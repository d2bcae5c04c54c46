-- What words say of their members.
use Rattle.std.proofs.Common.{◌≡◌, ◌≢◌, ℕ, ◌+◌, ◌-◌, ◌*◌, ◌%◌, ◌^◌, ◌<◌, ◌≤◌, true, ◌&&◌, ◌||◌, not, ◌==◌, arith, sym, ap, ◌∙◌, inl, inr}
use Rattle.std.specs.Prelude.{bit_or, bit_and}
use Rattle.std.specs.Int.{bit_at, bit_not, trailing_zeros, w64}
use Rattle.std.proofs.lemmas.Nat.Bits.{bit_at-lt, and_pow, bit_at-trailing_zeros}
use Rattle.std.proofs.lemmas.Bool.Decides.{nat_tests}
use Rattle.std.proofs.lemmas.Bool.{cases_lt}
use Rattle.std.proofs.lemmas.Nat.{pow_pos}
use Rattle.std.proofs.Math.Nat.{zero-mul}
use Rattle.tr_sigset.specs.Sets.{in_word}
use Rattle.tr_sigset.proofs.Members.{in_word-union, in_word-minus, in_word-and, in_word-suc, single_word}
use Rattle.tr_lanes.specs.Scans.{ready_word}

-- the test of a row against the word of one signal

bit_times_zero : (b m : ℕ) → b ≡ 0 → (b * m == 0) ≡ not (b == 1)
bit_times_zero b m e = rw e (ap (λ v. v == 0) (zero-mul m))

bit_times_one : (b m : ℕ) → b ≡ 1 → 0 < m → (b * m == 0) ≡ not (b == 1)
bit_times_one b m e q = rw e (grind (arith, nat_tests))

bit_times : (b m : ℕ) → b < 2 → 0 < m → (b * m == 0) ≡ not (b == 1)
bit_times b m p q = elim (cases_lt b 1) [ inl l ↦ bit_times_zero b m (omega arith) | inr g ↦ bit_times_one b m (omega arith) q ]

pub row_test : (row s : ℕ) → 1 ≤ s → s ≤ 64 → (bit_and row (1 * 2 ^ (s - 1) % 2 ^ 64) == 0) ≡ not (in_word row s)
row_test row s p q =
    ap (λ w. bit_and row w == 0) (single_word s p q)
    ∙ ap (λ w. w == 0) (and_pow row (s - 1))
    ∙ bit_times (bit_at row (s - 1)) (2 ^ (s - 1)) (bit_at-lt row (s - 1)) (pow_pos (s - 1))
    ∙ ap not (sym (in_word-suc row (s - 1) (omega arith)) ∙ ap (in_word row) (omega arith))

bit_whole_zero : (b m : ℕ) → b ≡ 0 → 0 < m → (b * m == m) ≡ (b == 1)
bit_whole_zero b m e q = rw (e, zero-mul m) (grind (arith, nat_tests))

bit_whole_one : (b m : ℕ) → b ≡ 1 → (b * m == m) ≡ (b == 1)
bit_whole_one b m e = rw e (grind (arith, nat_tests))

bit_whole : (b m : ℕ) → b < 2 → 0 < m → (b * m == m) ≡ (b == 1)
bit_whole b m p q = elim (cases_lt b 1) [ inl l ↦ bit_whole_zero b m (omega arith) q | inr g ↦ bit_whole_one b m (omega arith) ]

pub row_has : (row s : ℕ) → 1 ≤ s → s ≤ 64 → (bit_and row (1 * 2 ^ (s - 1) % 2 ^ 64) == 1 * 2 ^ (s - 1) % 2 ^ 64) ≡ in_word row s
row_has row s p q =
    ap (λ w. bit_and row w == w) (single_word s p q)
    ∙ ap (λ w. w == 2 ^ (s - 1)) (and_pow row (s - 1))
    ∙ bit_whole (bit_at row (s - 1)) (2 ^ (s - 1)) (bit_at-lt row (s - 1)) (pow_pos (s - 1))
    ∙ sym (in_word-suc row (s - 1) (omega arith)) ∙ ap (in_word row) (omega arith)

-- a signal stands in what a thread can take where it waits, isn't blocked, and stands in the runnable row
pub in_word-ready : (o b s r n : ℕ) → b < 2 ^ 64 → in_word (ready_word o b s r) n ≡ (((in_word o n || in_word s n) && not (in_word b n)) && in_word r n)
in_word-ready o b s r n q =
    in_word-and (bit_and (bit_or o s) (bit_not w64 b)) r n
    ∙ ap (λ v. v && in_word r n) (in_word-minus (bit_or o s) b n q ∙ ap (λ v. v && not (in_word b n)) (in_word-union o s n))

-- a word that isn't 0 has a member
pub some_member : (w : ℕ) → w < 2 ^ 64 → w ≢ 0 → (n : ℕ) × (in_word w n ≡ true)
some_member w p ne =
    let low = bit_at-trailing_zeros w64 w (omega (arith, ne)) p in
    (trailing_zeros w64 w + 1, in_word-suc w (trailing_zeros w64 w) low.0 ∙ ap (λ v. v == 1) low.1)
