-- Where nothing waits for a thread, nothing comes to wait for another.
use Rattle.std.proofs.Common.{◌≡◌, ◌==◌, ℕ, List, [], ◌∷◌, Bool, true, false, if◌then◌else◌, filter, length, map, refl, sym, ap, arith}
use Rattle.std.proofs.lemmas.Bool.Decides.{nat_tests}
use Rattle.tr_model.specs.declared.rows.Target.{Target}
use Rattle.tr_model.specs.declared.rows.Target.TheVariants as target
use Rattle.tr_model.specs.declared.rows.Waiting.{Waiting}
use Rattle.tr_model.specs.Moves.{retarget, retargeted}
use Rattle.tr_model.specs.Tables.{same_target}
use Rattle.tr_queues.specs.Changes.{queue_in}

stays : (from to : ℕ) (t : Target) → same_target (target.Thread from) t ≡ false → t ≡ retarget from to t
stays from to (target.Thread id) e =
    let other : (id == from) ≡ false = grind (arith, nat_tests, e) in
    sym (ap (λ b. if b then target.Thread to else target.Thread id) other)
stays from to (target.Group g) e = refl

pub unaimed : (from to : ℕ) (ws : List Waiting) → length (queue_in (target.Thread from) ws) ≡ 0 → ws ≡ map (retargeted from to) ws
unaimed from to [] h = refl
unaimed from to (w ∷ ws) h = go (same_target (target.Thread from) w.target) refl h (unaimed from to ws)
  where
    G : List Waiting
    G = filter (λ v. same_target (target.Thread from) v.target) ws

    go : (b : Bool) → same_target (target.Thread from) w.target ≡ b → length (map (λ v. v.instance) (if b then w ∷ G else G)) ≡ 0 → (length (queue_in (target.Thread from) ws) ≡ 0 → ws ≡ map (retargeted from to) ws) → w ∷ ws ≡ retargeted from to w ∷ map (retargeted from to) ws
    go true e h rest = absurd (omega (arith, h))
    go false e h rest =
        let t = stays from to w.target e in
        let r = rest h in
        λ i. record w { target = t i } ∷ r i
