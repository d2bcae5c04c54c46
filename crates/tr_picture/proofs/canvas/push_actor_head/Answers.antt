use Rattle.std.proofs.Common.{◌+◌, [], ◌∷◌, codes, decimal}
use Rattle.tr_figures.specs.declared.styles.Style.TheVariants.{Dim, Ink}
use Rattle.tr_figures.specs.Elements.{words}
use Rattle.tr_figures.proofs.Pushed.{pushed_two}
use Rattle.tr_picture.proofs.canvas.push_actor_head.Goals as goal

pub returns : goal.returns
returns c = pushed_two _ _ _ (words Ink (c.args.x + 4) 78 (decimal c.args.actor ∷ [])) (words Dim (c.args.x + 4) 94 (codes "actor" ∷ [])) c.in_ok-push_number.ensures c.in_ok-push_words.ensures
