use Rattle.std.proofs.Common.{◌∙◌, ap}
use Rattle.tr_pending.specs.Waiting.{best_of}
use Rattle.tr_model.specs.Tables.{queue}
use Rattle.tr_figures.proofs.Celled.{celled}
use Rattle.tr_figures.proofs.cells.push_cell.Goals as goal

pub returns : goal.returns
returns c =
    let T = c.args.table.now.table in
    celled _ _ _ _ c.args.told c.args.x T c.args.lane _ _ (c.best.ensures ∙ ap (λ b. best_of b (queue T c.args.lane)) c.empty.ensures.value) c.queue_len.ensures c.in_ok-push_first.ensures c.in_ok-push_more.ensures c.in_ok-push_block.ensures
