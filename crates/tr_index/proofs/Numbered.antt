-- Places in a list of ids, counted from 1, and what a removal makes of them.
use Rattle.std.proofs.Common.{◌≡◌, ◌≢◌, ◌==◌, ◌+◌, ◌%◌, ◌<◌, ◌≤◌, ◌∙◌, ◌||◌, ◌⊎◌, inl, inr, ℕ, zero, suc, List, [], ◌∷◌, ◌++◌, Bool, true, false, Option, Some, None, cond, if◌then◌else◌, nat_lt, get_or, length, position, remove, arith, ap, refl, sym}
use Rattle.std.specs.List.{list_any}
use Rattle.std.proofs.lemmas.Bool.{cases_eq, cases_lt, eq-eqb, eqb-true, lt-ltb, ltb-true, ne_eqb, true≢false}
use Rattle.std.proofs.lemmas.List.{get_or_past}
use Rattle.tr_model.specs.Journals.{occurs}
use Rattle.tr_index.specs.Pages.{IsOpen, counted_from_one, number_at, number_moved, page_with}
use Rattle.tr_index.proofs.Places.{by_place, first}

-- one place further on
abbrev pub bump : ℕ → ℕ
bump zero = 0
bump (suc k) = suc (suc k)

-- where an id first stands, counted from 1
abbrev pub number : ℕ → List ℕ → ℕ
number n [] = 0
number n (x ∷ xs) = if x == n then 1 else bump (number n xs)

-- a place counted from 1, or one more from place i on
abbrev pub shifted : ℕ → ℕ → ℕ
shifted i zero = 0
shifted i (suc p) = if nat_lt p i then suc p else suc (suc p)

pub below : (p i : ℕ) → p < i → nat_lt p i ≡ true
below p i h = lt-ltb p i h

not_below : (p i : ℕ) → i ≤ p → nat_lt p i ≡ false
not_below p i h = go (nat_lt p i) refl
  where
    go : (b : Bool) → nat_lt p i ≡ b → nat_lt p i ≡ false
    go true e = absurd (omega (arith, h, ltb-true p i e))
    go false e = e

same_test : (p i q j : ℕ) → (p < i → q < j) → (i ≤ p → j ≤ q) → nat_lt p i ≡ nat_lt q j
same_test p i q j l g = go (cases_lt p i)
  where
    go : (p < i) ⊎ (i ≤ p) → nat_lt p i ≡ nat_lt q j
    go (inl h) = below p i h ∙ sym (below q j (l h))
    go (inr h) = not_below p i h ∙ sym (not_below q j (g h))

-- the one that a place before i has, and the one that a place from i on has
pub lower : (p : ℕ) (b : Bool) → b ≡ true → (if b then suc p else suc (suc p)) ≡ suc p
lower p true e = refl
lower p false e = cc

higher : (p : ℕ) (b : Bool) → b ≡ false → (if b then suc p else suc (suc p)) ≡ suc (suc p)
higher p true e = cc
higher p false e = refl

shift_bump : (i k : ℕ) → shifted (suc i) (bump k) ≡ bump (shifted i k)
shift_bump i zero = refl
shift_bump i (suc k) = go (nat_lt (suc k) (suc i)) (nat_lt k i) (same_test (suc k) (suc i) k i (λ h. omega (arith, h)) (λ h. omega (arith, h)))
  where
    go : (a b : Bool) → a ≡ b → (if a then suc (suc k) else suc (suc (suc k))) ≡ bump (if b then suc k else suc (suc k))
    go true true e = refl
    go false false e = refl
    go true false e = cc
    go false true e = cc

-- What `position` says

by_first : (n : ℕ) (xs : List ℕ) → (first (λ m. m == n) xs < length xs → number n xs ≡ suc (first (λ m. m == n) xs)) × (length xs ≤ first (λ m. m == n) xs → number n xs ≡ 0)
by_first n [] = (λ h. absurd (omega (arith, h)), λ h. refl)
by_first n (x ∷ xs) = go (x == n) (by_first n xs)
  where
    go : (b : Bool) → (first (λ m. m == n) xs < length xs → number n xs ≡ suc (first (λ m. m == n) xs)) × (length xs ≤ first (λ m. m == n) xs → number n xs ≡ 0)
        → (cond b 0 (suc (first (λ m. m == n) xs)) < suc (length xs) → (if b then 1 else bump (number n xs)) ≡ suc (cond b 0 (suc (first (λ m. m == n) xs))))
        × (suc (length xs) ≤ cond b 0 (suc (first (λ m. m == n) xs)) → (if b then 1 else bump (number n xs)) ≡ 0)
    go true r = (λ h. refl, λ h. absurd (omega (arith, h)))
    go false r = (λ h. ap bump (r.0 (omega (arith, h))), λ h. ap bump (r.1 (omega (arith, h))))

pub number_is : (n : ℕ) (xs : List ℕ) → counted_from_one (position (λ m. m == n) xs) ≡ number n xs
number_is n xs = let r = by_first n xs in by_place (λ m. m == n) xs (λ o. counted_from_one o ≡ number n xs) (λ h. sym (r.0 h)) (λ h. sym (r.1 h))

moved_counted : (i : ℕ) (o : Option ℕ) → number_moved i o ≡ shifted i (counted_from_one o)
moved_counted i None = refl
moved_counted i (Some p) = refl

pub moved_is : (i n : ℕ) (xs : List ℕ) → number_moved i (position (λ m. m == n) xs) ≡ shifted i (number n xs)
moved_is i n xs = moved_counted i (position (λ m. m == n) xs) ∙ ap (shifted i) (number_is n xs)

-- Where no id stands twice

pub absent : (n : ℕ) (xs : List ℕ) → occurs n xs ≤ 0 → number n xs ≡ 0
absent n [] h = refl
absent n (x ∷ xs) h = go (x == n) h (absent n xs)
  where
    go : (b : Bool) → (if b then 1 else 0) + occurs n xs ≤ 0 → (occurs n xs ≤ 0 → number n xs ≡ 0) → (if b then 1 else bump (number n xs)) ≡ 0
    go true k r = absurd (omega (arith, k))
    go false k r = ap bump (r (omega (arith, k)))

-- the id at a place has the number of the place
back : (n i : ℕ) (d : ℕ) (xs : List ℕ) → number n xs ≡ suc i → get_or xs i d ≡ n
back n i d [] h = cc
back n i d (x ∷ xs) h = go (x == n) refl (number n xs) i refl h (λ j. back n j d xs)
  where
    go : (b : Bool) → (x == n) ≡ b → (k i : ℕ) → k ≡ number n xs → (if b then 1 else bump k) ≡ suc i → ((j : ℕ) → number n xs ≡ suc j → get_or xs j d ≡ n) → get_or (x ∷ xs) i d ≡ n
    go true e k zero q h r = eqb-true x n e
    go true e k (suc i) q h r = absurd (omega (arith, h))
    go false e zero i q h r = absurd (omega (arith, h))
    go false e (suc k) zero q h r = absurd (omega (arith, h))
    go false e (suc k) (suc i) q h r = r i (omega (arith, q, h))

found : (i d : ℕ) (xs : List ℕ) → ((n : ℕ) → occurs n xs ≤ 1) → i < length xs → 1 ≤ occurs (get_or xs i d) xs
found i d [] once h = absurd (omega (arith, h))
found zero d (x ∷ xs) once h = rw (eq-eqb x x refl) (omega arith)
found (suc i) d (x ∷ xs) once h = omega (arith, found i d xs (λ n. omega (arith, once n)) (omega (arith, h)))

pub at_place : (i d : ℕ) (xs : List ℕ) → ((n : ℕ) → occurs n xs ≤ 1) → i < length xs → number (get_or xs i d) xs ≡ suc i
at_place i d [] once h = absurd (omega (arith, h))
at_place zero d (x ∷ xs) once h = rw (eq-eqb x x refl) refl
at_place (suc i) d (x ∷ xs) once h =
    let rest : (n : ℕ) → occurs n xs ≤ 1 = λ n. omega (arith, once n) in
    go (x == get_or xs i d) refl (once (get_or xs i d)) (found i d xs rest (omega (arith, h))) (at_place i d xs rest (omega (arith, h)))
  where
    go : (b : Bool) → (x == get_or xs i d) ≡ b → (if b then 1 else 0) + occurs (get_or xs i d) xs ≤ 1 → 1 ≤ occurs (get_or xs i d) xs → number (get_or xs i d) xs ≡ suc i → (if b then 1 else bump (number (get_or xs i d) xs)) ≡ suc (suc i)
    go true e k l r = absurd (omega (arith, k, l))
    go false e k l r = ap bump r

-- A removal, and the places after it

pub removed : (n i d : ℕ) (xs : List ℕ) → ((m : ℕ) → occurs m xs ≤ 1) → i < length xs → (if n == get_or xs i d then 0 else number n xs) ≡ shifted i (number n (remove xs i))
removed n i d [] once h = absurd (omega (arith, h))
removed n zero d (x ∷ xs) once h = go (cases_eq n x)
  where
    past : (k : ℕ) → bump k ≡ shifted 0 k
    past zero = refl
    past (suc k) = sym (higher k (nat_lt k 0) (not_below k 0 (omega arith)))

    go : (n ≡ x) ⊎ (n ≡ x → ⊥) → (if n == x then 0 else (if x == n then 1 else bump (number n xs))) ≡ shifted 0 (number n xs)
    go (inl e) =
        let none : occurs n xs ≤ 0 = omega (arith, once n, ap {B = ℕ} (λ (b : Bool). if b then 1 else 0) (eq-eqb x n (sym e))) in
        rw (eq-eqb n x e) (sym (ap (shifted 0) (absent n xs none)))
    go (inr e) = rw (ne_eqb n x e, ne_eqb x n (λ k. e (sym k))) (past (number n xs))
removed n (suc i) d (x ∷ xs) once h =
    let rest : (m : ℕ) → occurs m xs ≤ 1 = λ m. omega (arith, once m) in
    go (cases_eq x n) (removed n i d xs rest (omega (arith, h))) (found i d xs rest (omega (arith, h)))
  where
    y : ℕ
    y = get_or xs i d

    none : (b : Bool) → (if b then 0 else number n xs) ≡ shifted i (number n (remove xs i)) → (if b then 0 else bump (number n xs)) ≡ bump (shifted i (number n (remove xs i)))
    none true r = ap bump r
    none false r = ap bump r

    go : (x ≡ n) ⊎ (x ≡ n → ⊥) → (if n == y then 0 else number n xs) ≡ shifted i (number n (remove xs i)) → 1 ≤ occurs y xs
        → (if n == y then 0 else (if x == n then 1 else bump (number n xs))) ≡ shifted (suc i) (if x == n then 1 else bump (number n (remove xs i)))
    go (inl e) r l = rw (eq-eqb x n e, ne_eqb n y (λ k. omega (arith, l, once y, ap {B = ℕ} (λ (b : Bool). if b then 1 else 0) (eq-eqb x y (e ∙ k))))) (sym (lower 0 (nat_lt 0 (suc i)) (below 0 (suc i) (omega arith))))
    go (inr e) r l = rw (ne_eqb x n e) (none (n == y) r ∙ sym (shift_bump i (number n (remove xs i))))

pub lowered : (n i d : ℕ) (xs : List ℕ) → ((m : ℕ) → occurs m xs ≤ 1) → i < length xs → (if n == get_or xs i d then suc i else shifted i (number n xs)) ≡ shifted (suc i) (number n xs)
lowered n i d xs once h = go (cases_eq n (get_or xs i d))
  where
    apart : (k : ℕ) → (k ≡ suc i → ⊥) → shifted i k ≡ shifted (suc i) k
    apart zero ne = refl
    apart (suc p) ne =
        let other : p ≢ i = λ e. ne (ap suc e) in
        ap (λ (b : Bool). if b then suc p else suc (suc p)) (same_test p i p (suc i) (λ h. omega (arith, h)) (λ h. omega (arith, h, other)))

    go : (n ≡ get_or xs i d) ⊎ (n ≡ get_or xs i d → ⊥) → (if n == get_or xs i d then suc i else shifted i (number n xs)) ≡ shifted (suc i) (number n xs)
    go (inl e) = rw (eq-eqb n (get_or xs i d) e) (sym (ap (shifted (suc i)) (ap (λ m. number m xs) e ∙ at_place i d xs once h) ∙ lower i (nat_lt i (suc i)) (below i (suc i) (omega arith))))
    go (inr e) = rw (ne_eqb n (get_or xs i d) e) (apart (number n xs) (λ k. e (sym (back n i d xs k))))

-- A new id comes last

pub number_pushed : (n id : ℕ) (xs : List ℕ) → list_any (λ m. m == id) xs ≡ false → number n (xs ++ id ∷ []) ≡ (if n == id then suc (length xs) else number n xs)
number_pushed n id [] new = go (cases_eq id n)
  where
    go : (id ≡ n) ⊎ (id ≡ n → ⊥) → (if id == n then 1 else bump 0) ≡ (if n == id then suc 0 else 0)
    go (inl e) = rw (eq-eqb id n e, eq-eqb n id (sym e)) refl
    go (inr e) = rw (ne_eqb id n e, ne_eqb n id (λ k. e (sym k))) refl
number_pushed n id (x ∷ xs) new = go (x == id) refl new (number_pushed n id xs)
  where
    other : (b c : Bool) → (x == n) ≡ b → (n == id) ≡ c → (x == id) ≡ false → number n (xs ++ id ∷ []) ≡ (if c then suc (length xs) else number n xs) → (if b then 1 else bump (number n (xs ++ id ∷ []))) ≡ (if c then suc (suc (length xs)) else (if b then 1 else bump (number n xs)))
    other true true e f g r = absurd (true≢false (sym (eq-eqb x id (eqb-true x n e ∙ eqb-true n id f)) ∙ g))
    other true false e f g r = refl
    other false true e f g r = ap bump r
    other false false e f g r = ap bump r

    go : (b : Bool) → (x == id) ≡ b → (b || list_any (λ m. m == id) xs) ≡ false
        → (list_any (λ m. m == id) xs ≡ false → number n (xs ++ id ∷ []) ≡ (if n == id then suc (length xs) else number n xs))
        → (if x == n then 1 else bump (number n (xs ++ id ∷ []))) ≡ (if n == id then suc (suc (length xs)) else (if x == n then 1 else bump (number n xs)))
    go true e k r = cc
    go false e k r = other (x == n) (n == id) refl refl e (r k)

-- Pages

-- an id that has a number has a place for one
pub has_place : (pages : List (List ℕ)) (id k : ℕ) → number_at pages id ≡ suc k → IsOpen pages id
has_place pages id k h = go (cases_lt (id % 256) (length (page_with pages id)))
  where
    go : ((id % 256 < length (page_with pages id)) ⊎ (length (page_with pages id) ≤ id % 256)) → IsOpen pages id
    go (inl l) = l
    go (inr l) = let none : number_at pages id ≡ 0 = get_or_past (page_with pages id) (id % 256) 0 l in absurd (omega (arith, h, none))

-- the one at place i itself is one higher
pub shift_self : (i : ℕ) → shifted i (suc i) ≡ suc (suc i)
shift_self i = higher i (nat_lt i i) (not_below i i (omega arith))
