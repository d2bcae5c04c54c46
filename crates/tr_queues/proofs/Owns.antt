-- How many wait for threads, and where none does.
use Rattle.std.proofs.Common.{◌≡◌, ◌∙◌, ◌+◌, ◌≤◌, ◌==◌, ℕ, suc, List, [], ◌∷◌, ◌++◌, Bool, true, false, if◌then◌else◌, length, map, refl, ap, arith}
use Rattle.std.proofs.lemmas.List.{append-nil}
use Rattle.tr_model.specs.declared.rows.Target.{Target}
use Rattle.tr_model.specs.declared.rows.Target.TheVariants as target
use Rattle.tr_model.specs.declared.rows.Waiting.{Waiting}
use Rattle.tr_model.specs.Moves.{retarget, retargeted}
use Rattle.tr_queues.specs.Changes.{queue_in}
use Rattle.tr_queues.specs.Queues.{count_own, own_share}

pub own_between : (A B : List Waiting) (w : Waiting) → count_own (A ++ w ∷ B) ≡ count_own (A ++ B) + own_share w.target
own_between [] B w = omega arith
own_between (x ∷ A) B w = omega (arith, own_between A B w)

pub own_last : (ws : List Waiting) (w : Waiting) → count_own (ws ++ w ∷ []) ≡ count_own ws + own_share w.target
own_last ws w = own_between ws [] w ∙ ap (λ vs. count_own vs + own_share w.target) (append-nil ws)

pub one_share : (t : Target) → own_share t ≤ 1
one_share (target.Thread id) = omega arith
one_share (target.Group g) = omega arith

pub own_few : (ws : List Waiting) → count_own ws ≤ length ws
own_few [] = omega arith
own_few (w ∷ ws) = omega (arith, one_share w.target, own_few ws)

same_share : (from to : ℕ) (t : Target) → own_share (retarget from to t) ≡ own_share t
same_share from to (target.Group g) = refl
same_share from to (target.Thread id) = go (id == from)
  where
    go : (b : Bool) → own_share (if b then target.Thread to else target.Thread id) ≡ 1
    go true = refl
    go false = refl

pub own_retargeted : (from to : ℕ) (ws : List Waiting) → count_own (map (retargeted from to) ws) ≡ count_own ws
own_retargeted from to [] = refl
own_retargeted from to (w ∷ ws) = omega (arith, same_share from to w.target, own_retargeted from to ws)

pub none_own : (id : ℕ) (ws : List Waiting) → count_own ws ≡ 0 → queue_in (target.Thread id) ws ≡ []
none_own id [] h = refl
none_own id (w ∷ ws) h = elim w.target as (λ t. own_share t + count_own ws ≡ 0 → queue_in (target.Thread id) (record w { target = t } ∷ ws) ≡ []) [
  | target.Thread n ↦ λ e. absurd (omega (arith, e))
  | target.Group g ↦ λ e. none_own id ws (omega (arith, e))
] h

pub none_shared : (g : ℕ) (ws : List Waiting) → count_own ws ≡ length ws → queue_in (target.Group g) ws ≡ []
none_shared g [] h = refl
none_shared g (w ∷ ws) h = elim w.target as (λ t. own_share t + count_own ws ≡ suc (length ws) → queue_in (target.Group g) (record w { target = t } ∷ ws) ≡ []) [
  | target.Thread n ↦ λ e. none_shared g ws (omega (arith, e))
  | target.Group m ↦ λ e. absurd (omega (arith, e, own_few ws))
] h
