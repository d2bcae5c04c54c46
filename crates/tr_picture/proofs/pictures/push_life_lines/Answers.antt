use Rattle.std.proofs.Common.{◌+◌, ap, arith, drop, get_or}
use Rattle.tr_picture.specs.Pictures.{life_line, life_lines}
use Rattle.tr_figures.proofs.Pushed.{first_left, next_pushed}
use Rattle.tr_picture.proofs.pictures.push_life_lines.Goals as goal

pub loop-actor-preserved : goal.loop-actor-preserved
loop-actor-preserved c =
    let actors = c.args.actors.now in
    let i = c.loop-actor.actor-index in
    let x = c.loop-actor.x in
    let y = c.args.y in
    record {
      text = next_pushed _ _ _ (life_lines x y (drop i actors)) (life_line x y (get_or actors i 0)) (life_lines (x + 118) y (drop (i + 1) actors)) (ap (life_lines x y) (first_left actors i 0 c.loop-actor-test.true)) c.loop-actor.invariant.text c.in_ok-push_life_line.ensures;
      x = omega (arith, c.loop-actor.invariant.x);
    }
