-- An action set by its place.
use Rattle.std.proofs.Common.{◌≡◌, ℕ, zero, suc, List, [], ◌∷◌, length, set, refl, ap}
use Rattle.tr_group.specs.declared.stops.Action.{Action}
use Rattle.tr_model.specs.Sends.{set_at}

pub set_at_place : (k : ℕ) (how : Action) (xs : List Action) → set_at k how xs ≡ set xs k how
set_at_place k how [] = refl
set_at_place zero how (x ∷ xs) = refl
set_at_place (suc k) how (x ∷ xs) = ap (λ l. x ∷ l) (set_at_place k how xs)

pub length_set_at : (k : ℕ) (how : Action) (xs : List Action) → length (set_at k how xs) ≡ length xs
length_set_at k how [] = refl
length_set_at zero how (x ∷ xs) = refl
length_set_at (suc k) how (x ∷ xs) = ap suc (length_set_at k how xs)
