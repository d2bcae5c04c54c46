use Rattle.std.proofs.Common.{drop}
use Rattle.tr_scenario.specs.RunTexts.{calls}
use Rattle.tr_scenario.proofs.Seen.{IsSeen}
use Rattle.tr_scenario.proofs.observers.observe_steps.Given as goal

abbrev pub invariant-loop-step : goal.invariant-loop-step
invariant-loop-step g l = IsSeen g.O.Observer.knows l.fn.kernel l.fn.observer (calls l.steps) l.kernel l.observer (calls (drop l.step-index l.steps))
