use Rattle.std.proofs.Common.{◌+◌, drop, replicate}
use Rattle.std.proofs.lemmas.Result.{err_from_is_err_and}
use Rattle.tr_answers.specs.Comparisons.{asked_by, asked_from}
use Rattle.tr_answers.proofs.Walking.{calls_of_step, going_differs, going_halted, going_next}
use Rattle.tr_answers.proofs.comparing.fill_steps.Goals as goal

pub returns-in_err-fill_calls : goal.returns-in_err-fill_calls
returns-in_err-fill_calls g c =
    let p = err_from_is_err_and c.from_residual.result c.from_residual.ensures.1 in
    let steps = c.args.steps.now in
    let k = c.loop-index.index in
    let a = c.index-steps-index.result in
    let i = rw (calls_of_step steps k a c.index-steps-index.is c.loop-index-test.true) at c.loop-index.invariant in
    rw (p.1, p.2) (going_halted g.W.Sink.taken g.W.Sink.failures _ _ _ _ _ c.fill_calls.new.page _ _ c.fill_calls.new.kernel _ (replicate a.step.times (asked_by (k + 1) a)) (asked_from (k + 1 + 1) (drop (k + 1) steps)) _ i c.in_err-fill_calls.ensures)

pub returns-then-not-branch : goal.returns-then-not-branch
returns-then-not-branch g c =
    let steps = c.args.steps.now in
    let k = c.loop-index.index in
    let a = c.index-steps-index.result in
    let i = rw (calls_of_step steps k a c.index-steps-index.is c.loop-index-test.true) at c.loop-index.invariant in
    going_differs g.W.Sink.taken g.W.Sink.failures _ _ _ _ _ _ _ _ c.fill_calls.new.kernel _ (replicate a.step.times (asked_by (k + 1) a)) (asked_from (k + 1 + 1) (drop (k + 1) steps)) i (rw c.if-not-branch.true at c.in_ok-fill_calls.ensures)

pub loop-index-preserved : goal.loop-index-preserved
loop-index-preserved g c =
    let steps = c.args.steps.now in
    let k = c.loop-index.index in
    let a = c.index-steps-index.result in
    let i = rw (calls_of_step steps k a c.index-steps-index.is c.loop-index-test.true) at c.loop-index.invariant in
    going_next g.W.Sink.taken g.W.Sink.failures _ _ _ _ _ _ _ _ _ _ (replicate a.step.times (asked_by (k + 1) a)) (asked_from (k + 1 + 1) (drop (k + 1) steps)) i (rw c.if-not-branch.false at c.in_ok-fill_calls.ensures)
