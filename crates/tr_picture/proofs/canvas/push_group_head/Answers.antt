use Rattle.std.proofs.Common.{◌+◌, [], ◌∷◌, codes, decimal}
use Rattle.tr_figures.specs.declared.styles.Style.TheVariants.{Ink, Name}
use Rattle.tr_figures.specs.Elements.{words}
use Rattle.tr_figures.proofs.Pushed.{pushed_two}
use Rattle.tr_picture.proofs.canvas.push_group_head.Goals as goal

pub returns : goal.returns
returns c = pushed_two _ _ _ (words Name (c.args.x + 128) 78 (c.args.name.now ∷ [])) (words Ink (c.args.x + 128) 94 (codes "group " ∷ decimal c.args.tgid ∷ [])) c.in_ok-push_words.ensures c.in_ok-push_group_id.ensures
