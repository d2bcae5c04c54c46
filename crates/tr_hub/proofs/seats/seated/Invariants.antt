use Rattle.std.proofs.Common.{◌≡◌, ◌+◌, length, map, take}
use Rattle.tr_hub.specs.Seats.{new_seat}
use Rattle.tr_hub.proofs.seats.seated.Given as goal

abbrev pub invariant-loop-actor : goal.invariant-loop-actor
invariant-loop-actor g l = record {
  entry_parts : l.shares.entries.parts + l.actor-index ≡ length l.actors + 1;
  accepted_parts : l.shares.accepted.parts + l.actor-index ≡ length l.actors + 1;
  entry_amount : l.shares.entries.amount ≡ 0;
  accepted_amount : l.shares.accepted.amount ≡ 0;
  made : l.seats.items ≡ map new_seat (take l.actor-index l.actors);
}
