use Rattle.std.proofs.Common.{◌≡◌, ◌+◌, ◌≤◌, drop, map}
use Rattle.tr_reading.specs.Scenarios.{calls_of_steps}
use Rattle.tr_answers.proofs.records.are_few.Given as goal

abbrev pub invariant-loop-answered : goal.invariant-loop-answered
invariant-loop-answered l = (l.calls ≤ 100000) × (l.calls + calls_of_steps (map (λ a. a.step) (drop l.answered-index l.steps)) ≡ calls_of_steps (map (λ a. a.step) l.steps))
