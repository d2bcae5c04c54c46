use Rattle.std.proofs.Common.{◌∙◌, ap}
use Rattle.tr_model.specs.Tables.{Table}
use Rattle.tr_picture.proofs.Pictured.{finished_is}
use Rattle.tr_picture.proofs.drawing.finished.Goals as goal

pub returns : goal.returns
returns c =
    finished_is _ _ c.args.kernel.now _ _ c.args.drawing _ _ _ _ c.drawing.view_is c.in_ok-close.ensures c.new-page.ensures
    c.position.ensures (c.limit.ensures ∙ ap (λ (T : Table). T.limit) c.table.ensures) (c.entries.ensures ∙ ap (λ (T : Table). T.entries) c.table-2.ensures) c.totals.ensures.totals
    c.in_ok-push_picture.ensures
