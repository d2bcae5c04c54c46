use Rattle.std.proofs.Common.{◌+◌, ap, arith, drop, get_or}
use Rattle.tr_picture.specs.Drawn.{actor_head, actor_heads}
use Rattle.tr_figures.proofs.Pushed.{first_left, next_pushed}
use Rattle.tr_picture.proofs.canvas.push_actor_heads.Goals as goal

pub loop-actor-preserved : goal.loop-actor-preserved
loop-actor-preserved c =
    let actors = c.args.actors.now in
    let i = c.loop-actor.actor-index in
    let x = c.loop-actor.x in
    record {
      text = next_pushed _ _ _ (actor_heads x (drop i actors)) (actor_head x (get_or actors i 0)) (actor_heads (x + 118) (drop (i + 1) actors)) (ap (actor_heads x) (first_left actors i 0 c.loop-actor-test.true)) c.loop-actor.invariant.text c.in_ok-push_actor_head.ensures;
      x = omega (arith, c.loop-actor.invariant.x);
    }
