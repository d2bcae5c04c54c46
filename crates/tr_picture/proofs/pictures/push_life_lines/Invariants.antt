use Rattle.std.proofs.Common.{◌≡◌, ◌+◌, ◌*◌, ◌++◌, drop}
use Rattle.tr_figures.specs.Elements.{printed}
use Rattle.tr_picture.specs.Pictures.{life_lines}
use Rattle.tr_picture.proofs.pictures.push_life_lines.Given as goal

abbrev pub invariant-loop-actor : goal.invariant-loop-actor
invariant-loop-actor l = record {
  text : l.page ++ printed (life_lines l.x l.y (drop l.actor-index l.actors)) ≡ l.fn.page ++ printed (life_lines 640 l.y l.actors);
  x : l.x ≡ 640 + 118 * l.actor-index;
}
