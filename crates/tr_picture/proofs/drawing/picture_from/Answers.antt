use Rattle.tr_picture.proofs.Pictured.{from_is}
use Rattle.tr_picture.proofs.drawing.picture_from.Goals as goal

pub returns-clause-ok : goal.returns-clause-ok
returns-clause-ok c = from_is _ _ c.args.canvas c.args.kernel.now _ _ _ c.new-drawing.ensures c.in_ok-observe.ensures.ok c.in_ok-finished.ensures
