-- Three and more that were pushed one after the other, and drawings from their parts.
use Rattle.std.proofs.Common.{◌≡◌, ◌≤◌, ◌+◌, ◌∙◌, ℕ, zero, suc, List, [], ◌∷◌, ◌++◌, ap, refl, append_assoc, length, take, arith}
use Rattle.tr_figures.specs.Elements.{Elements, all, printed}
use Rattle.tr_figures.proofs.Printed.{pushed_both}
use Rattle.tr_figures.proofs.Pushed.{pushed_two}

pub pushed_three : (old p1 p2 new : List ℕ) (a b c : Elements) → p1 ≡ old ++ printed a → p2 ≡ p1 ++ printed b → new ≡ p2 ++ printed c → new ≡ old ++ printed (all (a ∷ b ∷ c ∷ []))
pushed_three old p1 p2 new a b c h1 h2 h3 = pushed_both old p1 new a (all (b ∷ c ∷ [])) h1 (pushed_two p1 p2 new b c h2 h3)

pub pushed_four : (old p1 p2 p3 new : List ℕ) (a b c d : Elements) → p1 ≡ old ++ printed a → p2 ≡ p1 ++ printed b → p3 ≡ p2 ++ printed c → new ≡ p3 ++ printed d → new ≡ old ++ printed (all (a ∷ b ∷ c ∷ d ∷ []))
pushed_four old p1 p2 p3 new a b c d h1 h2 h3 h4 = pushed_both old p1 new a (all (b ∷ c ∷ d ∷ [])) h1 (pushed_three p1 p2 p3 new b c d h2 h3 h4)

pub take_fewer : (xs : List ℕ) (n m : ℕ) → n ≤ m → (length xs ≤ n) → take n xs ≡ take m xs
take_fewer [] zero zero h l = refl
take_fewer [] zero (suc m) h l = refl
take_fewer [] (suc n) (suc m) h l = refl
take_fewer [] (suc n) zero h l = refl
take_fewer (x ∷ xs) zero m h l = absurd (omega (arith, l))
take_fewer (x ∷ xs) (suc n) zero h l = absurd (omega (arith, h))
take_fewer (x ∷ xs) (suc n) (suc m) h l = ap (λ ys. x ∷ ys) (take_fewer xs n m (omega (arith, h)) (omega (arith, l)))

-- Texts that were pushed one after the other

pub three_parts : (old p1 p2 new a b c : List ℕ) → p1 ≡ old ++ a → p2 ≡ p1 ++ b → new ≡ p2 ++ c → new ≡ old ++ (a ++ (b ++ c))
three_parts old p1 p2 new a b c h1 h2 h3 =
    h3 ∙ ap (λ p. p ++ c) (h2 ∙ ap (λ p. p ++ b) h1) ∙ append_assoc (old ++ a) b c ∙ append_assoc old a (b ++ c)

pub five_parts : (old p1 p2 p3 p4 new a b c d e : List ℕ) → p1 ≡ old ++ a → p2 ≡ p1 ++ b → p3 ≡ p2 ++ c → p4 ≡ p3 ++ d → new ≡ p4 ++ e → new ≡ old ++ (a ++ (b ++ (c ++ (d ++ e))))
five_parts old p1 p2 p3 p4 new a b c d e h1 h2 h3 h4 h5 =
    three_parts p2 p3 p4 new c d e h3 h4 h5 ∙ ap (λ p. p ++ (c ++ (d ++ e))) h2 ∙ append_assoc p1 b (c ++ (d ++ e)) ∙ ap (λ p. p ++ (b ++ (c ++ (d ++ e)))) h1 ∙ append_assoc old a (b ++ (c ++ (d ++ e)))
