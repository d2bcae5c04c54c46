use Rattle.std.proofs.Common.{◌≡◌, ◌+◌, ◌≤◌, drop}
use Rattle.tr_reading.specs.Scenarios.{calls_of_steps}
use Rattle.tr_reading.proofs.reading.are_few.Given as goal

abbrev pub invariant-loop-step : goal.invariant-loop-step
invariant-loop-step l = (l.calls ≤ 100000) × (l.calls + calls_of_steps (drop l.step-index l.steps) ≡ calls_of_steps l.steps)
