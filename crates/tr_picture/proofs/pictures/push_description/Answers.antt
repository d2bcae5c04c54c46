use Rattle.std.proofs.Common.{[], ◌∷◌, codes}
use Rattle.tr_figures.specs.Elements.{none, text}
use Rattle.tr_picture.specs.Pictures.{description, word_at}
use Rattle.tr_picture.proofs.Printed.{pushed_tag}
use Rattle.tr_picture.proofs.pictures.push_description.Goals as goal

pub returns : goal.returns
returns c = pushed_tag _ _ _ _ (codes "desc") (word_at (codes "id") (codes "d") ∷ []) (text (description c.args.totals.now) none) c.in_ok-push.ensures.ok c.in_ok-push_description_text.ensures c.in_ok-push-2.ensures.ok
