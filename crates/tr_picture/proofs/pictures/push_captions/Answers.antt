use Rattle.std.proofs.Common.{[], ◌∷◌, codes}
use Rattle.tr_figures.specs.declared.styles.Style.TheVariants.{Dim}
use Rattle.tr_figures.specs.Elements.{words}
use Rattle.tr_picture.proofs.Pushed.{pushed_three}
use Rattle.tr_picture.proofs.pictures.push_captions.Goals as goal

pub returns : goal.returns
returns c =
    pushed_three _ _ _ _ (words Dim 16 94 (codes "at" ∷ [])) (words Dim 64 94 (codes "call" ∷ [])) (words Dim 312 94 (codes "answer" ∷ []))
    c.in_ok-push_words.ensures c.in_ok-push_words-2.ensures c.in_ok-push_words-3.ensures
