-- The first reason of several.
use Rattle.std.proofs.Common.{◌≡◌, List, [], ◌∷◌, ◌++◌, refl, Option, Some, None}
use Rattle.tr_reasons.specs.declared.reasons.Reason.{Reason}
use Rattle.tr_reasons.specs.Reasons.{first_reason}

pub first_alone : (o : Option Reason) → o ≡ first_reason (o ∷ [])
first_alone None = refl
first_alone (Some r) = refl

-- a reason that comes first also does with others after it
pub first_then : (xs ys : List (Option Reason)) (r : Reason) → Some r ≡ first_reason xs → Some r ≡ first_reason (xs ++ ys)
first_then [] ys r h = cc
first_then (None ∷ xs) ys r h = first_then xs ys r h
first_then (Some q ∷ xs) ys r h = h
