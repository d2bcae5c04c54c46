-- A walk over groups that passes those that have nothing to tell the starter.
use Rattle.std.proofs.Common.{◌≡◌, ◌+◌, ◌≤◌, ◌∙◌, ℕ, zero, suc, List, [], ◌∷◌, Some, None, false, drop, get_or, length, arith, ap, refl, sym}
use Rattle.std.proofs.Math.ListN.{drop_of_length-le}
use Rattle.std.proofs.Math.Seq.{drop-cons}
use Rattle.tr_model.specs.declared.rows.Group.{Group}
use Rattle.tr_model.specs.Tables.{Table}
use Rattle.tr_table.specs.Telling.{IsNextTelling, NoneTells, tells_starter}

-- f gives the same without a first group that has nothing to tell
module _ {B : Type 0} (f : List Group → B) (T : Table) (same : (g : Group) (gs : List Group) → tells_starter T g ≡ false → f (g ∷ gs) ≡ f gs) where
  passed : (gs : List Group) (from end : ℕ) → from ≤ end → end ≤ length gs → NoneTells T gs from end → f (drop from gs) ≡ f (drop end gs)
  passed gs zero zero le within none = refl
  passed [] zero (suc end) le within none = absurd (omega (arith, within))
  passed [] (suc from) zero le within none = absurd (omega (arith, le))
  passed [] (suc from) (suc end) le within none = refl
  passed (g ∷ gs) zero (suc end) le within none = same g gs (none 0 g (omega arith) (omega arith)) ∙ passed gs zero end (omega arith) (omega (arith, within)) (λ k d l h. none (suc k) d (omega arith) (omega (arith, h)))
  passed (g ∷ gs) (suc from) zero le within none = absurd (omega (arith, le))
  passed (g ∷ gs) (suc from) (suc end) le within none = passed gs from end (omega (arith, le)) (omega (arith, within)) (λ k d l h. none (suc k) d (omega (arith, l)) (omega (arith, h)))

  -- the walk goes on at the next group
  pub at_next : (gs : List Group) (from i : ℕ) (x : Group) → IsNextTelling T gs from (Some i) → x ≡ get_or gs i x → f (drop from gs) ≡ f gs → f (x ∷ drop (i + 1) gs) ≡ f gs
  at_next gs from i x h is so_far =
      let more : suc i ≡ i + 1 = omega arith in
      let whole : drop i gs ≡ x ∷ drop (i + 1) gs = drop-cons gs i x h.1 ∙ (λ j. (sym is) j ∷ drop (more j) gs) in
      ap f (sym whole) ∙ (sym (passed gs from i h.0 (omega (arith, h.1)) h.2) ∙ so_far)

  -- no group is left that has anything to tell
  pub at_end : (gs : List Group) (from : ℕ) → from ≤ length gs → IsNextTelling T gs from None → f (drop from gs) ≡ f gs → f [] ≡ f gs
  at_end gs from le h so_far = ap f (sym (drop_of_length-le gs (omega arith))) ∙ (sym (passed gs from (length gs) le (omega arith) h) ∙ so_far)
