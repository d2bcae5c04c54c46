use Rattle.std.proofs.Common.{◌≡◌, drop}
use Rattle.tr_picture.specs.Actors.{with_steps}
use Rattle.tr_picture.proofs.actors.add_steps.Given as goal

abbrev pub invariant-loop-step : goal.invariant-loop-step
invariant-loop-step l = with_steps l.actors (drop l.step-index l.steps) ≡ with_steps l.fn.actors l.steps
