use Rattle.std.proofs.Common.{◌+◌, [], ◌∷◌, decimal}
use Rattle.tr_figures.specs.declared.styles.Style.TheVariants.{Dim}
use Rattle.tr_figures.specs.Elements.{line, words}
use Rattle.tr_figures.proofs.Pushed.{pushed_two}
use Rattle.tr_picture.proofs.pictures.push_life_line.Goals as goal

pub returns : goal.returns
returns c =
    pushed_two _ _ _ (line Dim (c.args.x + 46) 102 (c.args.x + 46) c.args.y) (words Dim (c.args.x + 4) (c.args.y + 24) (decimal c.args.actor ∷ []))
    c.in_ok-push_line.ensures c.in_ok-push_number.ensures
