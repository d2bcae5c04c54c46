use Rattle.tr_picture.proofs.Pictured.{start_row_is}
use Rattle.tr_picture.proofs.canvas.Canvas.push_start_row.Goals as goal

pub returns : goal.returns
returns c =
    start_row_is _ _ c.args.table.now.table _ _ _ _ _ c.self.view_is c.lanes_left.ensures.left c.as_slice.ensures
    c.in_ok-push_group_start.ensures c.in_ok-push_cells.ensures c.in_ok-push.ensures.ok
