use Rattle.std.proofs.Common.{◌≡◌, ◌<◌, ◌≤◌}
use Rattle.tr_model.specs.declared.replies.Reply.TheVariants.{Nothing}
use Rattle.tr_kernel.specs.declared.answers.Answer.TheVariants.{Read}
use Rattle.tr_hub.specs.Kept.{IsPossible}
use Rattle.tr_hub.specs.Seats.{event_of}
use Rattle.tr_hub.proofs.Tries.{Waits}
use Rattle.tr_hub.proofs.hubs.Hub.wait_for.Given as goal

abbrev pub invariant-loop-turn : goal.invariant-loop-turn
invariant-loop-turn g l = record {
  actor : l.seat.actor ≡ l.initial.seat.actor;
  waits : Waits l.turn l.initial.seat l.seat;
  within : l.turn ≤ l.fn.turns;
  tried : 0 < l.turn → IsPossible l.initial.seat.actor (event_of l.fn.what) (Read Nothing);
}
