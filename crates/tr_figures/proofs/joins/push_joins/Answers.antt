use Rattle.tr_figures.specs.Joins.{join_at, renamed_at}
use Rattle.tr_figures.proofs.Pushed.{pushed_two}
use Rattle.tr_figures.proofs.joins.push_joins.Goals as goal

pub returns : goal.returns
returns c = pushed_two _ _ _ (join_at c.args.lane c.args.other) (renamed_at c.args.lane c.args.renamed.now) c.in_ok-push_join_at.ensures c.in_ok-push_renamed.ensures
