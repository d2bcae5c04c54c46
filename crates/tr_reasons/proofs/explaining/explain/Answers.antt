use Rattle.std.proofs.lemmas.Result.{err_from_is_err_and}
use Rattle.tr_scenario.proofs.Wholes.{scenario_is_fit}
use Rattle.tr_reasons.proofs.Wholes.{explains_printed, explains_refused, explains_unread}
use Rattle.tr_reasons.proofs.explaining.explain.Goals as goal

pub returns-in_err-bytes : goal.returns-in_err-bytes
returns-in_err-bytes g c =
    let p = err_from_is_err_and c.from_residual.result c.from_residual.ensures.1 in
    let b = c.in_err-bytes.ensures in
    rw (p.1, p.2) (explains_unread (Unit {0}) _ _ _ _ b.0.0 _ b.0.1 b.1)

pub run-requires-clause-good : goal.run-requires-clause-good
run-requires-clause-good g c = (scenario_is_fit c.in_ok-bytes.bytes c.in-Ok.scenario (rw c.as_slice.ensures at c.in-Ok.ensures.gives)).0

pub returns-in-Ok : goal.returns-in-Ok
returns-in-Ok g c =
    let b = c.in_ok-bytes.ensures in
    explains_printed g.W.Sink.taken g.W.Sink.failures c.args.writer.now c.run.new.writer _ _ c.in_ok-bytes.bytes c.in-Ok.scenario c.run.result b.0 b.1 b.2 (rw c.as_slice.ensures at c.in-Ok.ensures.gives) c.run.ensures

pub returns : goal.returns
returns g c =
    let b = c.in_ok-bytes.ensures in
    explains_refused g.W.Sink.taken g.W.Sink.failures c.args.writer.now c.refuse.new.writer _ _ c.in_ok-bytes.bytes c.in-Err.fault c.refuse.result b.0 b.1 b.2 (rw c.as_slice.ensures at c.in-Err.ensures.gives) (rw c.as_slice-in-Err.ensures at c.refuse.ensures)
