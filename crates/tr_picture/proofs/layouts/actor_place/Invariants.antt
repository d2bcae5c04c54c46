use Rattle.std.proofs.Common.{◌≡◌, ◌+◌, ◌*◌, drop}
use Rattle.tr_picture.specs.Layouts.{actor_place}
use Rattle.tr_picture.proofs.layouts.actor_place.Given as goal

abbrev pub invariant-loop-known : goal.invariant-loop-known
invariant-loop-known l = record {
  place : actor_place l.x (drop l.known-index l.actors) l.actor ≡ actor_place 640 l.actors l.actor;
  x : l.x ≡ 640 + 118 * l.known-index;
}
