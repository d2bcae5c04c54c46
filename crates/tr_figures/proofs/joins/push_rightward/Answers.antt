use Rattle.std.proofs.Common.{◌+◌}
use Rattle.tr_figures.specs.declared.styles.Style.TheVariants.{Joins}
use Rattle.tr_figures.specs.Elements.{line, rect}
use Rattle.tr_figures.proofs.Pushed.{pushed_two}
use Rattle.tr_figures.proofs.joins.push_rightward.Goals as goal

pub returns : goal.returns
returns c = pushed_two _ _ _ (line Joins (c.args.x + 248) 16 (c.args.y + 124) 16) (rect Joins (c.args.y + 118) 13 6 6) c.in_ok-push_line.ensures c.in_ok-push_rect.ensures
