use Rattle.std.proofs.lemmas.Result.{err_from_is_err_and}
use Rattle.tr_scenario.proofs.Wholes.{scenario_is_fit}
use Rattle.tr_picture.proofs.Wholes.{draws_printed, draws_refused}
use Rattle.tr_picture.proofs.drawing.draw.Goals as goal

pub returns-in_err-scenario : goal.returns-in_err-scenario
returns-in_err-scenario g c =
    let p = err_from_is_err_and c.from_residual-in_err-scenario.result c.from_residual-in_err-scenario.ensures.1 in
    let b = c.in_ok-bytes.ensures in
    rw (p.1, p.2) (draws_refused (Unit {0}) _ _ _ _ c.in_ok-bytes.bytes _ b.0 b.1 b.2 (rw c.as_slice.ensures at c.in_err-scenario.ensures.gives))

pub print_picture-requires-clause-good : goal.print_picture-requires-clause-good
print_picture-requires-clause-good g c = (scenario_is_fit c.in_ok-bytes.bytes c.in_ok-scenario.scenario (rw c.as_slice.ensures at c.in_ok-scenario.ensures.gives)).0

pub returns : goal.returns
returns g c =
    let b = c.in_ok-bytes.ensures in
    draws_printed g.W.Sink.taken g.W.Sink.failures c.args.writer.now c.print_picture.new.writer _ _ c.in_ok-bytes.bytes c.in_ok-scenario.scenario c.print_picture.result b.0 b.1 b.2 (rw c.as_slice.ensures at c.in_ok-scenario.ensures.gives) c.print_picture.ensures
