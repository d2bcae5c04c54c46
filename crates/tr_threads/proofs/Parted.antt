-- Lists of which the first ones pass a test, and no others.
use Rattle.std.proofs.Common.{◌≡◌, ◌+◌, ◌-◌, ◌<◌, ◌≤◌, ◌∙◌, ◌⊎◌, inl, inr, ℕ, zero, suc, List, [], ◌∷◌, Bool, true, false, Some, cond, filter, length, get_or, remove, arith, refl, ap, sym}
use Rattle.std.specs.Prelude.{slice_get}
use Rattle.std.specs.List.Sorted.{IsPartitionPoint, IsPartitionedBy}
use Rattle.std.proofs.lemmas.Bool.{cases_lt}
use Rattle.std.proofs.lemmas.Option.{get_or_from_slice_get, slice_get_within}
use Rattle.std.proofs.lemmas.List.Edits.{get_or-remove_above, get_or-remove_below, length-remove}

-- the first of them passes as b says, and the others are p
abbrev pub First : Bool → (ℕ → Type 0) → ℕ → Type 0
First b p zero = (b ≡ false) × p zero
First b p (suc n) = (b ≡ true) × p n

-- the first n pass, and no other
abbrev pub Parts : {X : Type 0} → (X → Bool) → List X → ℕ → Type 0
Parts f [] n = n ≡ 0
Parts f (x ∷ xs) n = First (f x) (Parts f xs) n

module _ {X : Type 0} (f : X → Bool) where
  pub parts_count : (xs : List X) (n : ℕ) → Parts f xs n → length (filter f xs) ≡ n
  parts_count [] n h = sym h
  parts_count (x ∷ xs) zero h = ap (λ b. length (cond b (x ∷ filter f xs) (filter f xs))) h.0 ∙ parts_count xs zero h.1
  parts_count (x ∷ xs) (suc n) h = ap (λ b. length (cond b (x ∷ filter f xs) (filter f xs))) h.0 ∙ ap suc (parts_count xs n h.1)

  pub parts_fit : (xs : List X) (n : ℕ) → Parts f xs n → n ≤ length xs
  parts_fit [] n h = omega (arith, h)
  parts_fit (x ∷ xs) zero h = omega arith
  parts_fit (x ∷ xs) (suc n) h = omega (arith, parts_fit xs n h.1)

  pub parts_high : (xs : List X) (n : ℕ) → Parts f xs n → (j : ℕ) (d : X) → j < n → f (get_or xs j d) ≡ true
  parts_high [] n h j d l = absurd (omega (arith, l, h))
  parts_high (x ∷ xs) zero h j d l = absurd (omega (arith, l))
  parts_high (x ∷ xs) (suc n) h zero d l = h.0
  parts_high (x ∷ xs) (suc n) h (suc j) d l = parts_high xs n h.1 j d (omega (arith, l))

  pub parts_low : (xs : List X) (n : ℕ) → Parts f xs n → (j : ℕ) (d : X) → n ≤ j → j < length xs → f (get_or xs j d) ≡ false
  parts_low [] n h j d a l = absurd (omega (arith, l))
  parts_low (x ∷ xs) zero h zero d a l = h.0
  parts_low (x ∷ xs) zero h (suc j) d a l = parts_low xs zero h.1 j d (omega arith) (omega (arith, l))
  parts_low (x ∷ xs) (suc n) h zero d a l = absurd (omega (arith, a))
  parts_low (x ∷ xs) (suc n) h (suc j) d a l = parts_low xs n h.1 j d (omega (arith, a)) (omega (arith, l))

  pub parts_parted : (xs : List X) (n : ℕ) → Parts f xs n → IsPartitionedBy f xs
  parts_parted xs n h i j d le l p = go (cases_lt j n)
    where
      never : (b : Bool) → b ≡ true → b ≡ false → ⊥
      never true p q = cc
      never false p q = cc

      go : (j < n) ⊎ (n ≤ j) → f (get_or xs i d) ≡ true
      go (inl k) = parts_high xs n h i d (omega (arith, k, le))
      go (inr k) = absurd (never (f (get_or xs j d)) p (parts_low xs n h j d k l))

  -- where a search has found the place
  pub point_parts : (xs : List X) (k : ℕ) → k ≤ length xs → ((j : ℕ) (d : X) → j < k → f (get_or xs j d) ≡ true) → ((j : ℕ) (d : X) → k ≤ j → j < length xs → f (get_or xs j d) ≡ false) → Parts f xs k
  point_parts [] k le low high = omega (arith, le)
  point_parts (x ∷ xs) zero le low high = (high 0 x (omega arith) (omega arith), point_parts xs zero (omega arith) (λ j d l. absurd (omega (arith, l))) (λ j d a b. high (suc j) d (omega arith) (omega (arith, b))))
  point_parts (x ∷ xs) (suc k) le low high = (low 0 x (omega arith), point_parts xs k (omega (arith, le)) (λ j d l. low (suc j) d (omega (arith, l))) (λ j d a b. high (suc j) d (omega (arith, a)) (omega (arith, b))))

  pub found_count : (xs : List X) (k : ℕ) → k ≤ length xs → IsPartitionPoint (λ y. f y ≡ true) (λ y. f y ≡ false) xs k → k ≡ length (filter f xs)
  found_count xs k le p = sym (parts_count xs k (point_parts xs k le (λ j d l. p.0 j d (omega arith) l) (λ j d a b. p.1 j d a b)))

  -- what is left when one goes
  pub parted_gone : (xs : List X) (n : ℕ) → n < length xs → IsPartitionedBy f xs → IsPartitionedBy f (remove xs n)
  parted_gone xs n h p i j d le l = go (cases_lt i n) (cases_lt j n)
    where
      go : (i < n) ⊎ (n ≤ i) → (j < n) ⊎ (n ≤ j) → f (get_or (remove xs n) j d) ≡ true → f (get_or (remove xs n) i d) ≡ true
      go (inl a) (inl b) = rw (get_or-remove_below xs n d i a h, get_or-remove_below xs n d j b h) (p i j d le (omega (arith, b, h)))
      go (inl a) (inr b) = rw (get_or-remove_below xs n d i a h, get_or-remove_above xs n d j b h) (p i (j + 1) d (omega (arith, le)) (omega (arith, l, length-remove xs n h)))
      go (inr a) (inl b) = absurd (omega (arith, a, b, le))
      go (inr a) (inr b) = rw (get_or-remove_above xs n d i a h, get_or-remove_above xs n d j b h) (p (i + 1) (j + 1) d (omega (arith, le)) (omega (arith, l, length-remove xs n h)))

  -- where none passes, and where all do

  pub none_pass : (xs : List X) → ((j : ℕ) (d : X) → j < length xs → f (get_or xs j d) ≡ false) → filter f xs ≡ []
  none_pass [] h = refl
  none_pass (x ∷ xs) h = ap (λ b. cond b (x ∷ filter f xs) (filter f xs)) (h 0 x (omega arith)) ∙ none_pass xs (λ j d l. h (suc j) d (omega (arith, l)))

  pub all_pass : (xs : List X) → ((j : ℕ) (d : X) → j < length xs → f (get_or xs j d) ≡ true) → filter f xs ≡ xs
  all_pass [] h = refl
  all_pass (x ∷ xs) h = ap (λ b. cond b (x ∷ filter f xs) (filter f xs)) (h 0 x (omega arith)) ∙ ap (λ ys. x ∷ ys) (all_pass xs (λ j d l. h (suc j) d (omega (arith, l))))

  -- where the last one passes, all do
  pub last_passes : (xs : List X) (x : X) → IsPartitionedBy f xs → slice_get xs (length xs - 1) ≡ Some x → f x ≡ true → length (filter f xs) ≡ length xs
  last_passes xs x p s h =
      let within : length xs - 1 < length xs = slice_get_within xs (length xs - 1) x s in
      ap (λ (ys : List X). length ys) (all_pass xs (λ j d l. p j (length xs - 1) d (omega (arith, l)) within (ap f (get_or_from_slice_get xs (length xs - 1) x d s) ∙ h)))

-- a test that all pass
pub all_parts : {X : Type 0} (xs : List X) → Parts (λ _. true) xs (length xs)
all_parts [] = refl
all_parts (x ∷ xs) = (refl, all_parts xs)
