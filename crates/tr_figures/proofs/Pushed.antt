-- What was pushed one after the other.
use Rattle.std.proofs.Common.{◌≡◌, ◌<◌, ◌+◌, ◌∙◌, ℕ, List, [], ◌∷◌, ◌++◌, ap, sym, append_assoc, length, get_or, drop, drop-cons, add-one}
use Rattle.tr_figures.specs.Elements.{Elements, all, both, printed}
use Rattle.tr_figures.proofs.Celled.{pushed_last}
use Rattle.tr_figures.proofs.Printed.{printed_both, pushed_both}

pub pushed_two : (old p1 new : List ℕ) (a b : Elements) → p1 ≡ old ++ printed a → new ≡ p1 ++ printed b → new ≡ old ++ printed (all (a ∷ b ∷ []))
pushed_two old p1 new a b h1 h2 = pushed_both old p1 new a (all (b ∷ [])) h1 (pushed_last p1 new b h2)

-- One of several elements was pushed

pub next_pushed : (page page_next text : List ℕ) (whole here rest : Elements) → whole ≡ both here rest → page ++ printed whole ≡ text → page_next ≡ page ++ printed here → page_next ++ printed rest ≡ text
next_pushed page page_next text whole here rest parts before drawn =
    ap (λ p. p ++ printed rest) drawn ∙ append_assoc page (printed here) (printed rest) ∙ ap (λ t. page ++ t) (sym (printed_both here rest)) ∙ ap (λ es. page ++ printed es) (sym parts) ∙ before

-- the first of those that are left
pub first_left : {A : Type 0} (xs : List A) (i : ℕ) (d : A) → i < length xs → drop i xs ≡ get_or xs i d ∷ drop (i + 1) xs
first_left xs i d h = drop-cons xs i d h ∙ ap (λ k. get_or xs i d ∷ drop k xs) (sym (add-one i))
