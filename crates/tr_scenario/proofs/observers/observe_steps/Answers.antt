use Rattle.std.proofs.Common.{◌≤◌, ◌+◌, drop, drop_of_length-le, get_or, length, replicate}
use Rattle.tr_scenario.specs.RunTexts.{call_of, calls}
use Rattle.tr_scenario.proofs.Left.{calls_of_step, no_step}
use Rattle.tr_scenario.proofs.Seen.{seen_at_end, seen_next}
use Rattle.tr_scenario.proofs.observers.observe_steps.Goals as goal

pub loop-step-preserved : goal.loop-step-preserved
loop-step-preserved g c =
    let steps = c.args.steps.now in
    let k = c.loop-step.step-index in
    let s = get_or steps k no_step in
    let i = rw (calls_of_step steps k no_step c.loop-step-test.true) at c.loop-step.invariant in
    seen_next _ _ _ _ _ _ _ _ (replicate s.times (call_of s.actor s.event)) (calls (drop (k + 1) steps)) i c.in_ok-observe_step.ensures.ok

pub returns-clause-ok : goal.returns-clause-ok
returns-clause-ok g c =
    let past : length c.args.steps.now ≤ c.loop-step.step-index = c.loop-step-test.false in
    seen_at_end _ _ _ _ _ _ (rw (drop_of_length-le c.args.steps.now past) at c.loop-step.invariant)
