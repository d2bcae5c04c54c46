use Rattle.std.proofs.Common.{◌≡◌, ◌+◌, ◌*◌, drop}
use Rattle.tr_picture.specs.Layouts.{lane_place}
use Rattle.tr_picture.proofs.layouts.lane_place.Given as goal

abbrev pub invariant-loop-lane : goal.invariant-loop-lane
invariant-loop-lane l = record {
  place : lane_place l.x (drop l.lane-index l.lanes) l.target ≡ lane_place l.left l.lanes l.target;
  x : l.x ≡ l.left + 292 * l.lane-index;
}
