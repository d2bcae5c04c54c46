use Rattle.std.proofs.Common.{◌*◌, ◌≤◌, length, take}
use Rattle.tr_model.specs.Moves.{at, each}
use Rattle.tr_model.specs.Tracers.{lose_tracer}
use Rattle.tr_steps.specs.UnderWay.{Moves}
use Rattle.tr_requests.proofs.tracers.leave_each.Given as goal

abbrev pub invariant-loop-i : goal.invariant-loop-i
invariant-loop-i l = Moves (each (take l.i l.ids) (λ id. at id (lose_tracer l.actor))) (3 * l.i) l.fn.step l.step × (l.i ≤ length l.ids)
