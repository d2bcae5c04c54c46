-- Where a number stands in a list that has it once.
use Rattle.std.proofs.Common.{◌≡◌, ◌==◌, ◌+◌, ◌<◌, ◌≤◌, ◌∙◌, ℕ, zero, suc, List, [], ◌∷◌, Bool, true, false, Some, None, not, cond, if◌then◌else◌, length, nat_lt, get_or, arith, ap}
use Rattle.std.specs.List.{position}
use Rattle.std.proofs.lemmas.Bool.{eq-eqb, lt-ltb}
use Rattle.tr_model.specs.Journals.{occurs}
use Rattle.tr_index.specs.Places.{place_in}

-- where a number stands in a list that has it once

listed : (n r d : ℕ) (ns : List ℕ) → r < length ns → get_or ns r d ≡ n → 1 ≤ occurs n ns
listed n r d [] h e = absurd (omega (arith, h))
listed n zero d (x ∷ xs) h e = rw (eq-eqb x n e) (omega arith)
listed n (suc r) d (x ∷ xs) h e = omega (arith, listed n r d xs (omega (arith, h)) e)

pub place_at : (n r d : ℕ) (ns : List ℕ) → r < length ns → get_or ns r d ≡ n → occurs n ns ≤ 1 → place_in n ns ≡ r
place_at n r d [] h e once = absurd (omega (arith, h))
place_at n zero d (x ∷ xs) h e once = ap (λ b. cond (not b) (1 + place_in n xs) 0) (eq-eqb x n e)
place_at n (suc r) d (x ∷ xs) h e once = go (x == n) once (listed n r d xs (omega (arith, h)) e) (place_at n r d xs (omega (arith, h)) e)
  where
    go : (b : Bool) → (if b then 1 else 0) + occurs n xs ≤ 1 → 1 ≤ occurs n xs → (occurs n xs ≤ 1 → place_in n xs ≡ r) → cond (not b) (1 + place_in n xs) 0 ≡ suc r
    go true o m q = absurd (omega (arith, o, m))
    go false o m q = omega (arith, q (omega (arith, o)))

pub position_at : (n r d : ℕ) (ns : List ℕ) → r < length ns → get_or ns r d ≡ n → occurs n ns ≤ 1 → position (λ m. m == n) ns ≡ Some r
position_at n r d ns h e once = ap (λ (k : ℕ). cond (nat_lt k (length ns)) (Some k) None) (place_at n r d ns h e once) ∙ ap (λ (b : Bool). cond b (Some r) None) (lt-ltb r (length ns) h)
