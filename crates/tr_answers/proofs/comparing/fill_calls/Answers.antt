use Rattle.std.proofs.Common.{◌<◌, ◌+◌, ◌-◌, ◌∷◌, [], arith, replicate}
use Rattle.std.proofs.lemmas.Result.{err_from_is_err_and}
use Rattle.tr_answers.specs.Comparisons.{asked_by}
use Rattle.tr_answers.proofs.Walking.{going_at_end, going_differs, going_halted, going_next}
use Rattle.tr_scenario.proofs.Left.{none_of_many, one_of_many}
use Rattle.tr_answers.proofs.comparing.fill_calls.Goals as goal

pub returns-in_err-fill_call : goal.returns-in_err-fill_call
returns-in_err-fill_call g c =
    let p = err_from_is_err_and c.from_residual.result c.from_residual.ensures.1 in
    let times = c.args.answered.now.step.times in
    let q = asked_by c.args.place c.args.answered.now in
    let more : c.loop.counter < times = omega arith in
    let i = rw (one_of_many q times c.loop.counter more) at c.loop.invariant.going in
    rw (p.1, p.2) (going_halted g.W.Sink.taken g.W.Sink.failures _ _ _ _ _ c.fill_call.new.page _ _ c.fill_call.new.kernel _ (q ∷ []) (replicate (times - (c.loop.counter + 1)) q) _ i c.in_err-fill_call.ensures)

pub returns-then-not-branch : goal.returns-then-not-branch
returns-then-not-branch g c =
    let times = c.args.answered.now.step.times in
    let q = asked_by c.args.place c.args.answered.now in
    let more : c.loop.counter < times = omega arith in
    let i = rw (one_of_many q times c.loop.counter more) at c.loop.invariant.going in
    going_differs g.W.Sink.taken g.W.Sink.failures _ _ _ _ _ _ _ _ c.fill_call.new.kernel _ (q ∷ []) (replicate (times - (c.loop.counter + 1)) q) i (rw c.if-not-branch.true at c.in_ok-fill_call.ensures)

pub loop-preserved : goal.loop-preserved
loop-preserved g c =
    let times = c.args.answered.now.step.times in
    let q = asked_by c.args.place c.args.answered.now in
    let more : c.loop.counter < times = omega arith in
    let i = rw (one_of_many q times c.loop.counter more) at c.loop.invariant.going in
    record {
      going = going_next g.W.Sink.taken g.W.Sink.failures _ _ _ _ _ _ _ _ _ _ (q ∷ []) (replicate (times - (c.loop.counter + 1)) q) i (rw c.if-not-branch.false at c.in_ok-fill_call.ensures);
      end = c.loop.invariant.end;
    }

pub returns : goal.returns
returns g c =
    let times = c.args.answered.now.step.times in
    let q = asked_by c.args.place c.args.answered.now in
    let i = rw (none_of_many q times c.loop.counter (omega arith)) at c.loop.invariant.going in
    going_at_end g.W.Sink.taken g.W.Sink.failures _ _ _ _ _ _ _ i
