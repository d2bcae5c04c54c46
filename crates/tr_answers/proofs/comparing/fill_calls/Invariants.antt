use Rattle.std.proofs.Common.{◌≡◌, ◌-◌, replicate}
use Rattle.tr_answers.specs.Comparisons.{asked_by}
use Rattle.tr_answers.proofs.Walking.{IsGoing}
use Rattle.tr_answers.proofs.comparing.fill_calls.Given as goal

abbrev pub invariant-loop : goal.invariant-loop
invariant-loop g l =
    let q = asked_by l.place l.answered in
    record {
      going : IsGoing l.fn.kernel (replicate l.answered.step.times q) (g.W.Sink.taken l.fn.writer) l.fn.page (g.W.Sink.failures l.fn.writer) l.kernel (replicate (l.answered.step.times - l.counter) q) (g.W.Sink.taken l.writer) l.page (g.W.Sink.failures l.writer);
      end : l.end ≡ l.answered.step.times;
    }
