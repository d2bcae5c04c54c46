use Rattle.tr_picture.proofs.Pictured.{footed}
use Rattle.tr_picture.proofs.pictures.push_foot.Goals as goal

pub returns : goal.returns
returns c =
    footed _ _ _ _ _ _ _ c.args.totals.now _ c.canvas.view_is c.rows_end-end.ensures.end
    c.in_ok-push_lost.ensures c.in_ok-push_hidden.ensures c.in_ok-push_totals_line.ensures c.in_ok-push_legend.ensures
