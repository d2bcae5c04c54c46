use Rattle.tr_picture.proofs.Pictured.{pictured}
use Rattle.tr_picture.proofs.pictures.push_picture.Goals as goal

pub returns : goal.returns
returns c =
    pictured _ _ _ _ _ _ _ _ c.args.facts.now _ _ _ c.canvas.view_is c.width.ensures c.rows_end.ensures.end c.as_bytes.ensures
    c.in_ok-push_opening.ensures c.in_ok-push_head.ensures c.in_ok-push.ensures.ok c.in_ok-push_foot.ensures c.in_ok-push-2.ensures.ok
