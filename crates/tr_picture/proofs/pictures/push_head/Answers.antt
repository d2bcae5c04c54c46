use Rattle.tr_picture.proofs.Pictured.{headed}
use Rattle.tr_picture.proofs.pictures.push_head.Goals as goal

pub returns : goal.returns
returns c =
    headed _ _ _ _ _ _ _ _ _ _ _ c.args.facts.now _ _ _ c.canvas.view_is c.width-width.ensures c.rows_end-end.ensures.end c.as_slice.ensures
    c.in_ok-push_picture_title.ensures c.in_ok-push_description.ensures c.in_ok-push_sheet.ensures c.in_ok-push_rect.ensures
    c.in_ok-push_summary_words.ensures c.in_ok-push_limits.ensures c.in_ok-push_captions.ensures c.in_ok-push_life_lines.ensures
