use Rattle.tr_picture.proofs.Pictured.{picture_is}
use Rattle.tr_picture.proofs.drawing.picture.Goals as goal

pub returns-clause-ok : goal.returns-clause-ok
returns-clause-ok c =
    picture_is c.args.scenario _ _ _ _ c.picture_from.result c.in_ok-canvas.ensures c.in_ok-kernel.ensures.ok c.table.ensures c.in_ok-push_start_row.ensures c.picture_from.ensures.ok
