-- The place of the first of a list that passes a test.
use Rattle.std.proofs.Common.{◌≡◌, ◌+◌, ◌<◌, ◌≤◌, ℕ, suc, Bool, true, false, List, [], ◌∷◌, Option, Some, None, cond, length, nat_lt, if◌then◌else◌, arith, refl, subst}
use Rattle.std.specs.List.{position, position_or_len}
use Rattle.std.proofs.lemmas.Bool.{ltb-false, ltb-true}
use Rattle.std.proofs.lemmas.List.Recursion.{is_position_or_len}

-- how many stand before the first that passes
abbrev pub first : {X : Type 0} → (X → Bool) → List X → ℕ
first p [] = 0
first p (x ∷ xs) = if p x then 0 else suc (first p xs)

pub first_is : {X : Type 0} (p : X → Bool) (xs : List X) → first p xs ≡ position_or_len p xs
first_is p xs = is_position_or_len (first p) p refl (λ y ys. step (p y) (first p ys)) xs
  where
    step : (b : Bool) (n : ℕ) → (if b then 0 else suc n) ≡ cond b 0 (1 + n)
    step true n = refl
    step false n = omega arith

-- the place, by whether there is one
pub by_place : {X : Type 0} (p : X → Bool) (xs : List X) (P : Option ℕ → Type 0) → (first p xs < length xs → P (Some (first p xs))) → (length xs ≤ first p xs → P None) → P (position p xs)
by_place p xs P some none = subst (λ n. P (cond (nat_lt n (length xs)) (Some n) None)) (first_is p xs) (go (nat_lt (first p xs) (length xs)) refl)
  where
    go : (b : Bool) → nat_lt (first p xs) (length xs) ≡ b → P (cond b (Some (first p xs)) None)
    go true h = some (ltb-true _ _ h)
    go false h = none (ltb-false _ _ h)
