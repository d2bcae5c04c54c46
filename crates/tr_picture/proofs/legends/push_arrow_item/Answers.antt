use Rattle.std.proofs.Common.{◌+◌, [], ◌∷◌}
use Rattle.tr_figures.specs.declared.styles.Style.TheVariants.{Ink}
use Rattle.tr_figures.specs.Elements.{line, words}
use Rattle.tr_figures.proofs.Pushed.{pushed_two}
use Rattle.tr_picture.proofs.legends.push_arrow_item.Goals as goal

pub returns : goal.returns
returns c = pushed_two _ _ _ (line c.args.meaning.now.style c.args.x (c.args.y + 6) (c.args.x + 18) (c.args.y + 6)) (words Ink (c.args.x + 24) (c.args.y + 11) (c.args.meaning.now.words.now ∷ [])) c.in_ok-push_line.ensures c.in_ok-push_words.ensures
