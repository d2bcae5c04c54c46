use Rattle.std.proofs.Common.{◌+◌, drop}
use Rattle.tr_answers.specs.Comparisons.{asked_from}
use Rattle.tr_answers.proofs.Walking.{IsGoing}
use Rattle.tr_answers.proofs.comparing.fill_steps.Given as goal

abbrev pub invariant-loop-index : goal.invariant-loop-index
invariant-loop-index g l =
    IsGoing l.fn.kernel (asked_from 1 l.steps) (g.W.Sink.taken l.fn.writer) l.fn.page (g.W.Sink.failures l.fn.writer) l.kernel (asked_from (l.index + 1) (drop l.index l.steps)) (g.W.Sink.taken l.writer) l.page (g.W.Sink.failures l.writer)
