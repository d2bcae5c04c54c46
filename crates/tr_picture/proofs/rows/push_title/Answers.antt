use Rattle.tr_picture.proofs.Rowed.{titled}
use Rattle.tr_picture.proofs.rows.push_title.Goals as goal

pub returns : goal.returns
returns c = titled _ _ _ _ c.args.line.now c.in_ok-push.ensures.ok c.in_ok-push_escaped.ensures c.in_ok-push-2.ensures.ok
