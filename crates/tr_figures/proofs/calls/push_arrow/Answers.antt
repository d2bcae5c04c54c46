use Rattle.tr_figures.proofs.Marked.{arrow_pushed}
use Rattle.tr_figures.proofs.calls.push_arrow.Goals as goal

pub returns : goal.returns
returns c = arrow_pushed _ _ _ c.args.style c.in-Some.from c.in-Some-lane.to c.args.actor c.args.lane c.in-Some.is c.in-Some-lane.is c.in_ok-push_line.ensures c.in_ok-push_rect.ensures
