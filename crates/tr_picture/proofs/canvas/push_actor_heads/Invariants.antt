use Rattle.std.proofs.Common.{◌≡◌, ◌+◌, ◌*◌, ◌++◌, drop}
use Rattle.tr_picture.specs.Drawn.{actor_heads}
use Rattle.tr_figures.specs.Elements.{printed}
use Rattle.tr_picture.proofs.canvas.push_actor_heads.Given as goal

abbrev pub invariant-loop-actor : goal.invariant-loop-actor
invariant-loop-actor l = record {
  text : l.page ++ printed (actor_heads l.x (drop l.actor-index l.actors)) ≡ l.fn.page ++ printed (actor_heads 640 l.actors);
  x : l.x ≡ 640 + 118 * l.actor-index;
}
