use Rattle.std.proofs.Common.{arith}
use Rattle.std.proofs.lemmas.Result.{err_from_is_err_and}
use Rattle.tr_status.proofs.Fronts.{stopped_at}
use Rattle.tr_status.proofs.sinks.put_pieces.Goals as goal

pub returns-in_err-put_all : goal.returns-in_err-put_all
returns-in_err-put_all g c =
    let p = err_from_is_err_and c.from_residual.result c.from_residual.ensures.1 in
    let h = c.in_err-put_all.ensures in
    let i = c.loop-piece.invariant in
    rw (p.1) (stopped_at _ _ _ c.args.pieces.now c.loop-piece.piece-index _ c.loop-piece-test.true i.left i.shorter h.0, omega (arith, h.1, i.none))
