use Rattle.std.proofs.Common.{◌≡◌, ◌++◌, List, [], ◌∷◌, ℕ, OnOk, codes, subst}
use Rattle.tr_figures.specs.Details.{detail_line}
use Rattle.tr_figures.specs.Elements.{printed}
use Rattle.tr_figures.proofs.details.push_mask.Goals as goal

pub returns : goal.returns
returns c =
    subst (λ (t : List ℕ). OnOk c.push_words.result (c.push_words.new.page ≡ c.args.page.now ++ printed (detail_line (codes "blocks " ∷ t ∷ [])))) c.mask_digits-digits.ensures c.push_words.ensures
