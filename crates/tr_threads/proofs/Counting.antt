-- How many of a list pass a test, and what a change at one place makes of that.
use Rattle.std.proofs.Common.{◌≡◌, ◌==◌, ◌||◌, ◌+◌, ◌<◌, ◌≤◌, ℕ, zero, suc, List, [], ◌∷◌, ◌++◌, Bool, true, false, not, cond, filter, length, set, get_or, remove, arith, refl, ap, sym}
use Rattle.std.specs.List.{list_any}
use Rattle.std.proofs.lemmas.Bool.{ne_eqb}
use Rattle.tr_index.specs.Counts.{bool_to_nat}

module _ {X : Type 0} (p : X → Bool) where
  counted_first : (x : X) (xs : List X) → length (filter p (x ∷ xs)) ≡ bool_to_nat (p x) + length (filter p xs)
  counted_first x xs = go (p x)
    where
      go : (b : Bool) → length (cond b (x ∷ filter p xs) (filter p xs)) ≡ bool_to_nat b + length (filter p xs)
      go true = omega arith
      go false = omega arith

  pub counted_written : (xs : List X) (i : ℕ) (d y : X) → i < length xs → length (filter p (set xs i y)) + bool_to_nat (p (get_or xs i d)) ≡ length (filter p xs) + bool_to_nat (p y)
  counted_written [] i d y h = absurd (omega (arith, h))
  counted_written (x ∷ xs) zero d y h = omega (arith, counted_first x xs, counted_first y xs)
  counted_written (x ∷ xs) (suc i) d y h = omega (arith, counted_first x xs, counted_first x (set xs i y), counted_written xs i d y (omega (arith, h)))

  pub counted_gone : (xs : List X) (i : ℕ) (d : X) → i < length xs → length (filter p (remove xs i)) + bool_to_nat (p (get_or xs i d)) ≡ length (filter p xs)
  counted_gone [] i d h = absurd (omega (arith, h))
  counted_gone (x ∷ xs) zero d h = omega (arith, counted_first x xs)
  counted_gone (x ∷ xs) (suc i) d h = omega (arith, counted_first x xs, counted_first x (remove xs i), counted_gone xs i d (omega (arith, h)))

  pub counted_added : (xs : List X) (y : X) → length (filter p (xs ++ y ∷ [])) ≡ length (filter p xs) + bool_to_nat (p y)
  counted_added [] y = omega (arith, counted_first y [])
  counted_added (x ∷ xs) y = omega (arith, counted_first x xs, counted_first x (xs ++ y ∷ []), counted_added xs y)

  -- the one at a place is counted
  pub one_counted : (xs : List X) (i : ℕ) (d : X) → i < length xs → bool_to_nat (p (get_or xs i d)) ≤ length (filter p xs)
  one_counted xs i d h = omega (arith, counted_gone xs i d h)

  pub any_counted : (xs : List X) → list_any p xs ≡ not (length (filter p xs) == 0)
  any_counted [] = refl
  any_counted (x ∷ xs) = go (p x) (any_counted xs)
    where
      go : (b : Bool) → list_any p xs ≡ not (length (filter p xs) == 0) → (b || list_any p xs) ≡ not (length (cond b (x ∷ filter p xs) (filter p xs)) == 0)
      go true h = sym (ap not (ne_eqb (suc (length (filter p xs))) 0 (λ e. omega (arith, e))))
      go false h = h
