-- What the operations on words do to membership.
use Rattle.std.proofs.Common.{◌≡◌, ◌≢◌, ℕ, ◌+◌, ◌-◌, ◌*◌, ◌/◌, ◌%◌, ◌^◌, ◌<◌, ◌≤◌, Bool, true, false, ◌&&◌, ◌||◌, not, nat_le, ◌==◌, Option, Some, None, zero, suc, arith, refl, sym, ap, ◌∙◌, min, max}
use Rattle.std.specs.Prelude.{bit_or, bit_and, IfSome, SomeIff}
use Rattle.std.specs.Int.{bit_at, bit_not, trailing_zeros, w64}
use Rattle.std.proofs.lemmas.Nat.Bits.{bit_at_or, bit_at_and, bit_at_not, bit_at-pow_same, bit_at-pow_other, bit_at-zero, bit_at-lt, same_from_bits_below, shr_and_one, bit_at-trailing_zeros}
use Rattle.std.proofs.lemmas.Bool.Decides.{nat_tests}
use Rattle.std.proofs.lemmas.Nat.{pow_below}
use Rattle.std.proofs.Math.Bool.{and-false}
use Rattle.std.proofs.Math.Nat.{mod-eq_of_lt}
use Rattle.tr_sigset.specs.Sets.{in_word}
use Rattle.tr_sigset.specs.Signals.{IsSignal}

-- tests of bits, each 0 or 1

or_bit : (a b : ℕ) → a < 2 → b < 2 → (max a b == 1) ≡ ((a == 1) || (b == 1))
or_bit a b p q = grind (arith, nat_tests)

and_bit : (a b : ℕ) → a < 2 → b < 2 → (min a b == 1) ≡ ((a == 1) && (b == 1))
and_bit a b p q = grind (arith, nat_tests)

not_bit : (a : ℕ) → a < 2 → ((1 - a) == 1) ≡ not (a == 1)
not_bit a p = grind (arith, nat_tests)

equal_bits : (a b : ℕ) → a < 2 → b < 2 → (a == 1) ≡ (b == 1) → a ≡ b
equal_bits a b p q e = grind (arith, nat_tests)

-- a test that goes before others

and_or : (p x y : Bool) → (p && (x || y)) ≡ ((p && x) || (p && y))
and_or true x y = refl
and_or false x y = refl

and_and : (p x y : Bool) → (p && (x && y)) ≡ ((p && x) && (p && y))
and_and true x y = refl
and_and false x y = refl

and_minus : (p x y : Bool) → (p && (x && not y)) ≡ ((p && x) && not (p && y))
and_minus true x y = refl
and_minus false x y = refl

where_true : (p x y : Bool) → (p ≡ true → x ≡ y) → (p && x) ≡ (p && y)
where_true true x y same = same refl
where_true false x y same = refl

pub in_range : (n : ℕ) → (nat_le 1 n && nat_le n 64) ≡ true → n - 1 < 64
in_range n e = grind (arith, nat_tests)

-- the set operations

pub in_word-zero : (n : ℕ) → in_word 0 n ≡ false
unfolding in_word
in_word-zero n = rw (bit_at-zero (n - 1)) (and-false (nat_le 1 n && nat_le n 64))

pub in_word-union : (a b n : ℕ) → in_word (bit_or a b) n ≡ (in_word a n || in_word b n)
unfolding in_word
in_word-union a b n =
    ap (λ v. (nat_le 1 n && nat_le n 64) && (v == 1)) (bit_at_or a b (n - 1))
    ∙ ap (λ v. (nat_le 1 n && nat_le n 64) && v) (or_bit _ _ (bit_at-lt a (n - 1)) (bit_at-lt b (n - 1)))
    ∙ and_or (nat_le 1 n && nat_le n 64) _ _

pub in_word-and : (a b n : ℕ) → in_word (bit_and a b) n ≡ (in_word a n && in_word b n)
unfolding in_word
in_word-and a b n =
    ap (λ v. (nat_le 1 n && nat_le n 64) && (v == 1)) (bit_at_and a b (n - 1))
    ∙ ap (λ v. (nat_le 1 n && nat_le n 64) && v) (and_bit _ _ (bit_at-lt a (n - 1)) (bit_at-lt b (n - 1)))
    ∙ and_and (nat_le 1 n && nat_le n 64) _ _

minus_bit : (a b k : ℕ) → b < 2 ^ 64 → k < 64 → (bit_at (bit_and a (bit_not w64 b)) k == 1) ≡ ((bit_at a k == 1) && not (bit_at b k == 1))
minus_bit a b k q l =
    ap (λ v. v == 1) (bit_at_and a (bit_not w64 b) k)
    ∙ ap (λ v. min (bit_at a k) v == 1) (bit_at_not w64 b k q l)
    ∙ and_bit (bit_at a k) (1 - bit_at b k) (bit_at-lt a k) (omega arith)
    ∙ ap (λ v. (bit_at a k == 1) && v) (not_bit _ (bit_at-lt b k))

pub in_word-minus : (a b n : ℕ) → b < 2 ^ 64 → in_word (bit_and a (bit_not w64 b)) n ≡ (in_word a n && not (in_word b n))
unfolding in_word
in_word-minus a b n q =
    where_true (nat_le 1 n && nat_le n 64) _ _ (λ e. minus_bit a b (n - 1) q (in_range n e))
    ∙ and_minus (nat_le 1 n && nat_le n 64) _ _

-- the word of one signal

single_same : (s : ℕ) → 1 ≤ s → s ≤ 64 → in_word (2 ^ (s - 1)) s ≡ true
unfolding in_word
single_same s p q = rw (bit_at-pow_same (s - 1)) (grind (arith, nat_tests))

single_other : (s n : ℕ) → 1 ≤ s → 1 ≤ n → n ≢ s → in_word (2 ^ (s - 1)) n ≡ false
unfolding in_word
single_other s n p q ne = ap (λ v. (nat_le 1 n && nat_le n 64) && (v == 1)) (bit_at-pow_other (s - 1) (n - 1) (λ e. ne (omega (arith, e)))) ∙ and-false (nat_le 1 n && nat_le n 64)

single_none : (s n : ℕ) → n ≡ 0 → in_word (2 ^ (s - 1)) n ≡ false
unfolding in_word
single_none s n e = rw e refl

in_word-single : (s n : ℕ) → 1 ≤ s → s ≤ 64 → in_word (2 ^ (s - 1)) n ≡ (n == s)
in_word-single s n p q = grind (arith, nat_tests, single_same, single_other, single_none)

-- as the code makes it
pub single_word : (s : ℕ) → 1 ≤ s → s ≤ 64 → 1 * 2 ^ (s - 1) % 2 ^ 64 ≡ 2 ^ (s - 1)
single_word s p q = let below : 2 ^ (s - 1) < 2 ^ 64 = pow_below (s - 1) 64 (omega arith) in ap (λ w. w % 2 ^ 64) (omega arith) ∙ mod-eq_of_lt below

pub in_word-with : (a s n : ℕ) → 1 ≤ s → s ≤ 64 → in_word (bit_or a (1 * 2 ^ (s - 1) % 2 ^ 64)) n ≡ (in_word a n || n == s)
in_word-with a s n p q = ap (λ w. in_word (bit_or a w) n) (single_word s p q) ∙ in_word-union a (2 ^ (s - 1)) n ∙ ap (λ b. in_word a n || b) (in_word-single s n p q)

pub in_word-without : (a s n : ℕ) → 1 ≤ s → s ≤ 64 → in_word (bit_and a (bit_not w64 (2 ^ (s - 1)))) n ≡ (in_word a n && not (n == s))
in_word-without a s n p q = in_word-minus a (2 ^ (s - 1)) n (pow_below (s - 1) 64 (omega arith)) ∙ ap (λ b. in_word a n && not b) (in_word-single s n p q)

pub word_without-code : (a s : ℕ) → 1 ≤ s → s ≤ 64 → bit_and a (2 ^ 64 - 1 - (1 * 2 ^ (s - 1) % 2 ^ 64)) ≡ bit_and a (bit_not w64 (2 ^ (s - 1)))
word_without-code a s p q = ap (λ w. bit_and a (bit_not w64 w)) (single_word s p q)

positive : (s : ℕ) → 1 ≤ s → s ≤ 64 → (nat_le 1 s && nat_le s 64) ≡ true
positive s p q = grind (arith, nat_tests)

-- the test that the code makes
pub in_word-test : (a s : ℕ) → 1 ≤ s → s ≤ 64 → (bit_and (a / 2 ^ (s - 1)) 1 == 1) ≡ in_word a s
unfolding in_word
in_word-test a s p q = ap (λ v. v == 1) (shr_and_one a (s - 1)) ∙ sym (ap (λ v. v && (bit_at a (s - 1) == 1)) (positive s p q))

pub ruleset members = (in_word-zero, in_word-union, in_word-minus, in_word-with, in_word-without, word_without-code, in_word-test)

-- words with the same members are equal

pub in_word-suc : (w i : ℕ) → i < 64 → in_word w (i + 1) ≡ (bit_at w i == 1)
unfolding in_word
in_word-suc w i l =
    ap (λ b. b && (bit_at w (i + 1 - 1) == 1)) (positive (i + 1) (omega arith) (omega arith))
    ∙ ap (λ m. bit_at w m == 1) (omega arith)

pub same_members : (a b : ℕ) → a < 2 ^ 64 → b < 2 ^ 64 → ((n : ℕ) → in_word a n ≡ in_word b n) → a ≡ b
same_members a b p q same = same_from_bits_below 64 a b p q (λ i l. equal_bits (bit_at a i) (bit_at b i) (bit_at-lt a i) (bit_at-lt b i) (sym (in_word-suc a i l) ∙ same (i + 1) ∙ in_word-suc b i l))

-- the least member of a word that isn't 0

least : (w : ℕ) → w < 2 ^ 64 → w ≢ 0 → trailing_zeros w64 w < 64 → in_word w (trailing_zeros w64 w + 1) ≡ true
least w p ne l = in_word-suc w (trailing_zeros w64 w) l ∙ ap (λ v. v == 1) (bit_at-trailing_zeros w64 w (omega (arith, ne)) p).1

none_less : (w n : ℕ) → w < 2 ^ 64 → w ≢ 0 → trailing_zeros w64 w < 64 → n < trailing_zeros w64 w + 1 → in_word w n ≡ false
unfolding in_word
none_less w zero p ne l h = refl
none_less w (suc n) p ne l h =
    let e : suc n ≡ n + 1 = omega arith in
    ap (in_word w) e ∙ in_word-suc w n (omega arith) ∙ ap (λ v. v == 1) ((bit_at-trailing_zeros w64 w (omega (arith, ne)) p).2 n (omega arith))

-- what is made of the place of the lowest bit, where that makes a signal
pub least_member : (w : ℕ) (o : Option ℕ) → SomeIff o (IsSignal (trailing_zeros w64 w + 1)) (trailing_zeros w64 w + 1) → w < 2 ^ 64 → w ≢ 0 → IfSome o (λ s. in_word w s ≡ true)
least_member w None h p ne = tt
least_member w (Some s) h p ne = ap (λ n. in_word w n) h.1 ∙ least w p ne (omega (arith, h.0))

pub least_is_least : (w : ℕ) (o : Option ℕ) → SomeIff o (IsSignal (trailing_zeros w64 w + 1)) (trailing_zeros w64 w + 1) → w < 2 ^ 64 → w ≢ 0 → IfSome o (λ s. (n : ℕ) → n < s → in_word w n ≡ false)
least_is_least w None h p ne = tt
least_is_least w (Some s) h p ne = λ n l. none_less w n p ne (omega (arith, h.0)) (omega (arith, h.1))
