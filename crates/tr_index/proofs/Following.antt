-- The next of rising numbers, and what is left of them without one.
use Rattle.std.proofs.Common.{ltb, ◌≡◌, ◌==◌, ◌+◌, ◌-◌, ◌<◌, ◌≤◌, ◌⊎◌, ◌∙◌, inl, inr, ℕ, List, [], ◌∷◌, Bool, not, Option, Some, None, if◌then◌else◌, filter, length, map, nat_lt, get_or, is_some, option_copied, arith, refl, ap, sym, eq-eqb, Bor}
use Rattle.std.specs.List.{slice_get}
use Rattle.std.specs.Option.{IfSome}
use Rattle.std.specs.List.Sorted.{IsNonDecreasing}
use Rattle.std.proofs.lemmas.Bool.{cases_eq, cases_lt, le-ltb, lt-ltb, ltb-false, ltb-true, ne_eqb}
use Rattle.std.proofs.lemmas.List.{get_or-map, length-map}
use Rattle.std.proofs.lemmas.List.Kept.{IsNonDecreasingBy-filter}
use Rattle.std.proofs.lemmas.Option.{get_or_from_slice_get, none-some, slice_get_cases, slice_get_past, slice_get_read, slice_get_within}
use Rattle.tr_model.specs.Journals.{occurs}
use Rattle.tr_model.proofs.Costs.{filter-le-length}
use Rattle.tr_index.specs.Multisets.{IsNextFrom, lowered}
use Rattle.tr_index.proofs.Multisets.{nowhere, stands}

past : (xs : List ℕ) (i : ℕ) → slice_get xs i ≡ None → length xs ≤ i
past xs i e = go (slice_get_cases xs i).1
  where
    go : ((x : ℕ) × (i < length xs) × (slice_get xs i ≡ Some x) × (get_or xs i x ≡ x)) ⊎ ((length xs ≤ i) × (slice_get xs i ≡ None)) → length xs ≤ i
    go (inl h) = absurd (none-some h.0 (sym e ∙ h.2))
    go (inr h) = h.0

pub copied_is : (xs : List ℕ) (i : ℕ) (r : Option (Bor ℕ)) → is_some r ≡ ltb i (length xs) → IfSome r (λ x. x.now ≡ get_or xs i x.now) → slice_get xs i ≡ option_copied r
copied_is xs i None e h = slice_get_past xs i (ltb-false i (length xs) (sym e))
copied_is xs i (Some x) e h = slice_get_read xs (length xs) i x.now refl (ltb-true i (length xs) (sym e)) h

-- the numbers before place i are less than n, and those from it on aren't
pub next_at : (xs : List ℕ) (n i : ℕ) (r : Option ℕ) → IsNonDecreasing xs → ((k : ℕ) → k < i → k < length xs → get_or xs k 0 < n) → (i < length xs → n ≤ get_or xs i 0) → slice_get xs i ≡ r → IsNextFrom n xs r
next_at xs n i None rises low high e = λ m le. nowhere m xs (λ k l q. go m le k l q (cases_lt k i))
  where
    go : (m : ℕ) → n ≤ m → (k : ℕ) → k < length xs → get_or xs k 0 ≡ m → (k < i) ⊎ (i ≤ k) → ⊥
    go m le k l q (inl b) = omega (arith, low k b l, le, q)
    go m le k l q (inr b) = omega (arith, l, b, past xs i e)
next_at xs n i (Some x) rises low high e =
    let within : i < length xs = slice_get_within xs i x e in
    let at : get_or xs i 0 ≡ x = get_or_from_slice_get xs i x 0 e in
    (omega (arith, high within, at), stands x xs i within at, λ m le less. nowhere m xs (λ k l q. go m le less k l q at (cases_lt k i)))
  where
    go : (m : ℕ) → n ≤ m → m < x → (k : ℕ) → k < length xs → get_or xs k 0 ≡ m → get_or xs i 0 ≡ x → (k < i) ⊎ (i ≤ k) → ⊥
    go m le less k l q at (inl b) = omega (arith, low k b l, le, q)
    go m le less k l q at (inr b) = omega (arith, rises i k 0 b l, less, q, at)

-- a number goes, and those above it are one less

rises_mapped : (f : ℕ → ℕ) (xs : List ℕ) → ((a b : ℕ) → a ≤ b → f a ≤ f b) → IsNonDecreasing xs → IsNonDecreasing (map f xs)
rises_mapped f xs up rises j k d le lt =
    let within : k < length xs = omega (arith, lt, length-map xs f) in
    omega (arith, get_or-map f xs j d d (omega (arith, le, within)), get_or-map f xs k d d within, up _ _ (rises j k d le within))

lowered_rises : (n a b : ℕ) → a ≤ b → lowered n a ≤ lowered n b
lowered_rises n a b le = go (cases_lt n a) (cases_lt n b)
  where
    go : (n < a) ⊎ (a ≤ n) → (n < b) ⊎ (b ≤ n) → lowered n a ≤ lowered n b
    go (inl h) (inl k) = rw (lt-ltb n a h, lt-ltb n b k) (omega (arith, le))
    go (inl h) (inr k) = absurd (omega (arith, h, k, le))
    go (inr h) (inl k) = rw (le-ltb n a h, lt-ltb n b k) (omega (arith, h, k))
    go (inr h) (inr k) = rw (le-ltb n a h, le-ltb n b k) le

-- the numbers but n, where those above it are one less
abbrev pub without : ℕ → List ℕ → List ℕ
without n xs = map (lowered n) (filter (λ m. not (m == n)) xs)

pub rises_without : (n : ℕ) (xs : List ℕ) → IsNonDecreasing xs → IsNonDecreasing (without n xs)
rises_without n xs rises = rises_mapped (lowered n) (filter (λ m. not (m == n)) xs) (lowered_rises n) (IsNonDecreasingBy-filter (λ x. x) (λ m. not (m == n)) xs rises)

pub length-without : (n : ℕ) (xs : List ℕ) → length (without n xs) ≤ length xs
length-without n xs = omega (arith, length-map (filter (λ m. not (m == n)) xs) (lowered n), filter-le-length (λ m. not (m == n)) xs)

same_eq : (a b p q : ℕ) → (a ≡ b → p ≡ q) → (p ≡ q → a ≡ b) → (a == b) ≡ (p == q)
same_eq a b p q f g = go (cases_eq a b)
  where
    go : (a ≡ b) ⊎ (a ≡ b → ⊥) → (a == b) ≡ (p == q)
    go (inl e) = eq-eqb a b e ∙ sym (eq-eqb p q (f e))
    go (inr e) = ne_eqb a b e ∙ sym (ne_eqb p q (λ k. e (g k)))

-- m comes from this number
abbrev from : ℕ → ℕ → ℕ
from n m = if nat_lt m n then m else m + 1

not_from : (n m : ℕ) → from n m ≡ n → ⊥
not_from n m e = go (cases_lt m n)
  where
    go : (m < n) ⊎ (n ≤ m) → ⊥
    go (inl h) = omega (arith, h, sym (ap (λ (b : Bool). if b then m else m + 1) (lt-ltb m n h)) ∙ e)
    go (inr h) = omega (arith, h, sym (ap (λ (b : Bool). if b then m else m + 1) (le-ltb m n h)) ∙ e)

lowered_is : (n m x : ℕ) → (x ≡ n → ⊥) → (lowered n x == m) ≡ (x == from n m)
lowered_is n m x ne = go (cases_lt n x) (cases_lt m n)
  where
    go : (n < x) ⊎ (x ≤ n) → (m < n) ⊎ (n ≤ m) → (lowered n x == m) ≡ (x == from n m)
    go (inl h) (inl k) = rw (lt-ltb n x h, lt-ltb m n k) (same_eq (x - 1) m x m (λ e. omega (arith, e, h, k)) (λ e. omega (arith, e, h, k)))
    go (inl h) (inr k) = rw (lt-ltb n x h, le-ltb m n k) (same_eq (x - 1) m x (m + 1) (λ e. omega (arith, e, h)) (λ e. omega (arith, e)))
    go (inr h) (inl k) = rw (le-ltb n x h, lt-ltb m n k) refl
    go (inr h) (inr k) = rw (le-ltb n x h, le-ltb m n k) (same_eq x m x (m + 1) (λ e. absurd (ne (omega (arith, e, h, k)))) (λ e. omega (arith, e, h, k)))

pub occurs_without : (m n : ℕ) (xs : List ℕ) → occurs m (without n xs) ≡ occurs (from n m) xs
occurs_without m n [] = refl
occurs_without m n (x ∷ xs) = go (cases_eq x n) (occurs_without m n xs)
  where
    go : (x ≡ n) ⊎ (x ≡ n → ⊥) → occurs m (without n xs) ≡ occurs (from n m) xs → occurs m (without n (x ∷ xs)) ≡ occurs (from n m) (x ∷ xs)
    go (inl e) r = rw (eq-eqb x n e, ne_eqb x (from n m) (λ k. not_from n m (sym k ∙ e))) (omega (arith, r))
    go (inr e) r = rw (ne_eqb x n e) (λ i. (if lowered_is n m x e i then 1 else 0) + r i)
