-- Numbers that ascend are distinct.
use Rattle.std.proofs.Common.{◌≡◌, ◌+◌, ◌<◌, ◌≤◌, ◌++◌, ◌∙◌, ◌==◌, ◌&&◌, ◌||◌, ℕ, suc, List, [], ◌∷◌, Bool, true, false, not, Option, Some, None, if◌then◌else◌, nat_lt, add-one, drop, drop-cons, drop_of_length-le, get_or, length, map, arith, refl, ap, sym}
use Rattle.std.specs.List.{list_any}
use Rattle.std.proofs.lemmas.Bool.{ltb-true, ne_eqb}
use Rattle.tr_starts.specs.Ascending.{last_ascending}
use Rattle.tr_starts.specs.Starts.{ids_started, no_repeat}
use Rattle.tr_starts.specs.declared.starts.GroupStart.{GroupStart}

-- goes on with more numbers, after those before
abbrev go_on : Option ℕ → List ℕ → Option ℕ
go_on None xs = None
go_on (Some n) xs = last_ascending n xs

ascending_append : (n : ℕ) (xs ys : List ℕ) → last_ascending n (xs ++ ys) ≡ go_on (last_ascending n xs) ys
ascending_append n [] ys = refl
ascending_append n (x ∷ xs) ys = go (nat_lt n x) (ascending_append x xs ys)
  where
    go : (b : Bool) → last_ascending x (xs ++ ys) ≡ go_on (last_ascending x xs) ys → (if b then last_ascending x (xs ++ ys) else None) ≡ go_on (if b then last_ascending x xs else None) ys
    go true r = r
    go false r = refl

-- what isn't above the first isn't among the later ones
below : (k n : ℕ) (xs : List ℕ) (m : ℕ) → k ≤ n → last_ascending n xs ≡ Some m → list_any (λ y. y == k) xs ≡ false
below k n [] m l h = refl
below k n (x ∷ xs) m l h = go (nat_lt n x) refl h (below k x xs m)
  where
    go : (b : Bool) → nat_lt n x ≡ b → (if b then last_ascending x xs else None) ≡ Some m → (k ≤ x → last_ascending x xs ≡ Some m → list_any (λ y. y == k) xs ≡ false) → (x == k || list_any (λ y. y == k) xs) ≡ false
    go true e h rest =
        let above : n < x = ltb-true n x e in
        ap (λ b. b || list_any (λ y. y == k) xs) (ne_eqb x k (λ j. omega (arith, above, l, j))) ∙ rest (omega (arith, above, l)) h
    go false e h rest = cc

distinct : (n : ℕ) (xs : List ℕ) (m : ℕ) → last_ascending n xs ≡ Some m → no_repeat xs ≡ true
distinct n [] m h = refl
distinct n (x ∷ xs) m h = go (nat_lt n x) h (below x x xs m (omega arith)) (distinct x xs m)
  where
    go : (b : Bool) → (if b then last_ascending x xs else None) ≡ Some m → (last_ascending x xs ≡ Some m → list_any (λ y. y == x) xs ≡ false) → (last_ascending x xs ≡ Some m → no_repeat xs ≡ true)
        → (not (list_any (λ y. y == x) xs) && no_repeat xs) ≡ true
    go true h new rest = ap (λ b. not b && no_repeat xs) (new h) ∙ rest h
    go false h new rest = cc

-- one group more, and all groups

pub next_group : (gs : List GroupStart) (i last id : ℕ) (g : GroupStart) → g ≡ get_or gs i g → i < length gs → last_ascending last (map (λ t. t.0) g.threads) ≡ Some id
    → last_ascending id (ids_started (drop (i + 1) gs)) ≡ last_ascending last (ids_started (drop i gs))
next_group gs i last id g is l h =
    let rest : List ℕ = ids_started (drop (suc i) gs) in
    sym (ap (λ (xs : List GroupStart). last_ascending last (ids_started xs)) (drop-cons gs i g l ∙ ap (λ (x : GroupStart). x ∷ drop (suc i) gs) (sym is))
    ∙ (ascending_append last (map (λ t. t.0) g.threads) rest ∙ (ap (λ o. go_on o rest) h ∙ ap (λ (k : ℕ). last_ascending id (ids_started (drop k gs))) (sym (add-one i)))))

pub distinct_at_end : (gs : List GroupStart) (i last : ℕ) → length gs ≤ i → last_ascending last (ids_started (drop i gs)) ≡ last_ascending 0 (ids_started gs) → no_repeat (ids_started gs) ≡ true
distinct_at_end gs i last l h = distinct 0 (ids_started gs) last (sym (ap (λ (xs : List GroupStart). last_ascending last (ids_started xs)) (sym (drop_of_length-le gs l)) ∙ h))
