-- A list of ids of which none stands twice.
use Rattle.std.proofs.Common.{◌≡◌, ◌==◌, ◌||◌, ◌+◌, ℕ, List, [], ◌∷◌, Bool, true, false, if◌then◌else◌, arith, refl, true≢false, ◌≤◌, ◌∙◌, ◌⊎◌, inl, inr, zero, suc, ◌++◌, remove, sym, ap}
use Rattle.std.specs.List.{list_any}
use Rattle.std.proofs.lemmas.Bool.{cases_eq, eq-eqb, ne_eqb}
use Rattle.tr_model.specs.Journals.{occurs}
use Rattle.tr_model.proofs.Among.{occurs-append}

-- ids

pub none_occurs : (n : ℕ) (xs : List ℕ) → list_any (λ y. y == n) xs ≡ false → occurs n xs ≡ 0
none_occurs n [] e = refl
none_occurs n (x ∷ xs) e = go (x == n) e (none_occurs n xs)
  where
    go : (b : Bool) → (b || list_any (λ y. y == n) xs) ≡ false → (list_any (λ y. y == n) xs ≡ false → occurs n xs ≡ 0) → (if b then 1 else 0) + occurs n xs ≡ 0
    go true h r = absurd (true≢false h)
    go false h r = omega (arith, r h)

pub once_pushed : (id : ℕ) (xs : List ℕ) → list_any (λ m. m == id) xs ≡ false → ((k : ℕ) → occurs k xs ≤ 1) → (n : ℕ) → occurs n (xs ++ id ∷ []) ≤ 1
once_pushed id xs new once n = go (cases_eq id n)
  where
    go : (id ≡ n) ⊎ (id ≡ n → ⊥) → occurs n (xs ++ id ∷ []) ≤ 1
    go (inl e) = rw (occurs-append n xs (id ∷ []), eq-eqb id n e) (omega (arith, none_occurs n xs (ap (λ (i : ℕ). list_any (λ m. m == i) xs) (sym e) ∙ new)))
    go (inr e) = rw (occurs-append n xs (id ∷ []), ne_eqb id n e) (omega (arith, once n))

pub once_removed : (xs : List ℕ) (i : ℕ) → ((k : ℕ) → occurs k xs ≤ 1) → (n : ℕ) → occurs n (remove xs i) ≤ 1
once_removed xs i once n = omega (arith, once n, fewer xs i)
  where
    fewer : (xs : List ℕ) (i : ℕ) → occurs n (remove xs i) ≤ occurs n xs
    fewer [] zero = omega arith
    fewer [] (suc i) = omega arith
    fewer (x ∷ xs) zero = omega arith
    fewer (x ∷ xs) (suc i) = omega (arith, fewer xs i)
