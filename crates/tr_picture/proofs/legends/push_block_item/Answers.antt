use Rattle.std.proofs.Common.{◌+◌, [], ◌∷◌}
use Rattle.tr_figures.specs.declared.styles.Style.TheVariants.{Ink}
use Rattle.tr_figures.specs.Elements.{rect, words}
use Rattle.tr_figures.proofs.Pushed.{pushed_two}
use Rattle.tr_picture.proofs.legends.push_block_item.Goals as goal

pub returns : goal.returns
returns c = pushed_two _ _ _ (rect c.args.meaning.now.style c.args.x c.args.y 18 12) (words Ink (c.args.x + 24) (c.args.y + 11) (c.args.meaning.now.words.now ∷ [])) c.in_ok-push_rect.ensures c.in_ok-push_words.ensures
