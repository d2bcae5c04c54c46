use Rattle.std.proofs.Common.{[], ◌∷◌, codes}
use Rattle.tr_figures.specs.Elements.{none, text}
use Rattle.tr_picture.specs.Pictures.{summary, word_at}
use Rattle.tr_picture.proofs.Printed.{pushed_tag}
use Rattle.tr_picture.proofs.pictures.push_picture_title.Goals as goal

pub returns : goal.returns
returns c = pushed_tag _ _ _ _ (codes "title") (word_at (codes "id") (codes "t") ∷ []) (text (summary c.args.calls c.args.entries) none) c.in_ok-push.ensures.ok c.in_ok-push_summary.ensures c.in_ok-push-2.ensures.ok
