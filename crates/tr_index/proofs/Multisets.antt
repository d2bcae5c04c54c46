-- Numbers that rise, each counted as often as it stands there.
use Rattle.std.proofs.Common.{ltb, ◌≡◌, ◌==◌, ◌+◌, ◌++◌, ◌<◌, ◌≤◌, ◌⊎◌, inl, inr, ℕ, zero, suc, List, [], ◌∷◌, Bool, true, false, not, Result, Ok, Err, is_ok, if◌then◌else◌, length, get_or, remove, arith, refl, ap, sym, eq-eqb, subst}
use Rattle.std.specs.List.{insert}
use Rattle.std.specs.List.Sorted.{IsBinarySearchResult, IsNonDecreasing, IsNonDecreasingBy, IsPartitionPoint}
use Rattle.std.specs.Ordering.{nat_cmp}
use Rattle.std.specs.Result.{MatchResult}
use Rattle.std.proofs.lemmas.Bool.{cases_eq, cases_lt, ltb-false, ltb-true, ne_eqb}
use Rattle.std.proofs.lemmas.List.Edits.{get_or-remove_above, get_or-remove_below, length-remove}
use Rattle.std.proofs.lemmas.List.Sorted.{IsNonDecreasingBy-insert, searched}
use Rattle.tr_model.specs.Journals.{occurs}
use Rattle.tr_index.specs.Counts.{bool_to_nat}

-- what an insertion and a removal make of the counts

pub occurs_added : (m n : ℕ) (xs : List ℕ) (i : ℕ) → occurs m (insert xs i n) ≡ occurs m xs + bool_to_nat (n == m)
occurs_added m n [] zero = one (n == m)
  where
    one : (b : Bool) → (if b then 1 else 0) + 0 ≡ 0 + bool_to_nat b
    one true = omega arith
    one false = omega arith
occurs_added m n [] (suc i) = one (n == m)
  where
    one : (b : Bool) → (if b then 1 else 0) + 0 ≡ 0 + bool_to_nat b
    one true = omega arith
    one false = omega arith
occurs_added m n (x ∷ xs) zero = one (n == m) (occurs m (x ∷ xs))
  where
    one : (b : Bool) (k : ℕ) → (if b then 1 else 0) + k ≡ k + bool_to_nat b
    one true k = omega arith
    one false k = omega arith
occurs_added m n (x ∷ xs) (suc i) = omega (arith, occurs_added m n xs i)

pub occurs_last : (m n : ℕ) (xs : List ℕ) → occurs m (xs ++ n ∷ []) ≡ occurs m xs + bool_to_nat (n == m)
occurs_last m n [] = occurs_added m n [] 0
occurs_last m n (x ∷ xs) = omega (arith, occurs_last m n xs)

pub occurs_gone : (m n : ℕ) (xs : List ℕ) (i : ℕ) → i < length xs → get_or xs i 0 ≡ n → occurs m (remove xs i) + bool_to_nat (n == m) ≡ occurs m xs
occurs_gone m n [] i h e = absurd (omega (arith, h))
occurs_gone m n (x ∷ xs) zero h e = one (x == m) (n == m) (ap (λ (k : ℕ). k == m) e)
  where
    one : (a b : Bool) → a ≡ b → occurs m xs + bool_to_nat b ≡ (if a then 1 else 0) + occurs m xs
    one true true q = omega arith
    one false false q = omega arith
    one true false q = cc
    one false true q = cc
occurs_gone m n (x ∷ xs) (suc i) h e = omega (arith, occurs_gone m n xs i (omega (arith, h)) e)

-- where a number stands, and where none does

pub stands : (n : ℕ) (xs : List ℕ) (i : ℕ) → i < length xs → get_or xs i 0 ≡ n → 1 ≤ occurs n xs
stands n xs i h e = omega (arith, occurs_gone n n xs i h e, ap bool_to_nat (eq-eqb n n refl))

pub nowhere : (n : ℕ) (xs : List ℕ) → ((k : ℕ) → k < length xs → get_or xs k 0 ≡ n → ⊥) → occurs n xs ≡ 0
nowhere n [] h = refl
nowhere n (x ∷ xs) h = go (cases_eq x n) (nowhere n xs (λ k l. h (suc k) (omega (arith, l))))
  where
    go : (x ≡ n) ⊎ (x ≡ n → ⊥) → occurs n xs ≡ 0 → (if x == n then 1 else 0) + occurs n xs ≡ 0
    go (inl e) r = absurd (h 0 (omega arith) e)
    go (inr e) r = omega (arith, r, ap {B = ℕ} (λ (b : Bool). if b then 1 else 0) (ne_eqb x n e))

-- what a search in rising numbers tells

-- where the number stands, or what stands before and after the place that it has
abbrev pub IsFound : List ℕ → ℕ → Result ℕ ℕ → Type 0
IsFound xs n r = MatchResult r (λ i. (i < length xs) × (get_or xs i 0 ≡ n)) (λ i. (i ≤ length xs) × ((k : ℕ) → k < i → get_or xs k 0 < n) × ((k : ℕ) → i ≤ k → k < length xs → n < get_or xs k 0))

module _ (xs ys : List ℕ) (n : ℕ) (r : Result ℕ ℕ) (same : ys ≡ xs) (rises : IsNonDecreasing xs) (found : IsBinarySearchResult (λ y. nat_cmp y n) ys r) where
  pub result : IsFound xs n r
  result = searched xs n r (subst (λ (zs : List ℕ). IsBinarySearchResult (λ y. nat_cmp y n) zs r) same found) (λ i j le lt. rises i j 0 le lt)

absent : (xs : List ℕ) (n i : ℕ) → ((k : ℕ) → k < i → get_or xs k 0 < n) → ((k : ℕ) → i ≤ k → k < length xs → n < get_or xs k 0) → occurs n xs ≡ 0
absent xs n i low high = nowhere n xs (λ k l e. apart k l e (cases_lt k i))
  where
    apart : (k : ℕ) → k < length xs → get_or xs k 0 ≡ n → (k < i) ⊎ (i ≤ k) → ⊥
    apart k l e (inl b) = omega (arith, low k b, e)
    apart k l e (inr b) = omega (arith, high k b l, e)

pub has_it : (xs : List ℕ) (n : ℕ) (r : Result ℕ ℕ) → IsFound xs n r → is_ok r ≡ not (occurs n xs == 0)
has_it xs n (Ok i) h = sym (ap not (ne_eqb (occurs n xs) 0 (λ e. omega (arith, e, stands n xs i h.0 h.1))))
has_it xs n (Err i) h = sym (ap not (eq-eqb (occurs n xs) 0 (absent xs n i h.1 h.2)))

-- a number that counts is found
pub found_it : (xs : List ℕ) (n i : ℕ) → IsFound xs n (Err i) → 1 ≤ occurs n xs → ⊥
found_it xs n i h there = omega (arith, there, absent xs n i h.1 h.2)

-- at the place before which all are less
pub rises_added : (xs : List ℕ) (n i : ℕ) → IsNonDecreasing xs → i ≤ length xs → IsPartitionPoint (λ y. ltb y n ≡ true) (λ y. ltb y n ≡ false) xs i → IsNonDecreasing (insert xs i n)
rises_added xs n i rises le p =
    IsNonDecreasingBy-insert (λ x. x) xs i n rises le
    (λ k d l. let less : get_or xs k d < n = ltb-true _ _ (p.0 k d (omega arith) l) in omega (arith, less))
    (λ k d a b. ltb-false _ _ (p.1 k d a b))

pub rises_gone : {X : Type 0} (n : X → ℕ) (xs : List X) (i : ℕ) → i < length xs → IsNonDecreasingBy n xs → IsNonDecreasingBy n (remove xs i)
rises_gone n xs i h rises j k d le lt = go (cases_lt j i) (cases_lt k i)
  where
    go : (j < i) ⊎ (i ≤ j) → (k < i) ⊎ (i ≤ k) → n (get_or (remove xs i) j d) ≤ n (get_or (remove xs i) k d)
    go (inl a) (inl b) = rw (get_or-remove_below xs i d j a h, get_or-remove_below xs i d k b h) (rises j k d le (omega (arith, b, h)))
    go (inl a) (inr b) = rw (get_or-remove_below xs i d j a h, get_or-remove_above xs i d k b h) (rises j (k + 1) d (omega (arith, le)) (omega (arith, lt, length-remove xs i h)))
    go (inr a) (inl b) = absurd (omega (arith, a, b, le))
    go (inr a) (inr b) = rw (get_or-remove_above xs i d j a h, get_or-remove_above xs i d k b h) (rises (j + 1) (k + 1) d (omega (arith, le)) (omega (arith, lt, length-remove xs i h)))
