use Rattle.std.proofs.Common.{rules, arith, ◌∙◌}
use Rattle.tr_workers.specs.Private.{task}
use Rattle.tr_workers.proofs.Joins.{seats_left, tasks_more}
use Rattle.tr_workers.proofs.teams.start_all.Goals as goal

pub loop-worker-preserved : goal.loop-worker-preserved
loop-worker-preserved g c =
    let l = c.loop-worker in
    let i = l.invariant in
    record {
      seats = c.remove-seat.ensures.by_index.2 ∙ seats_left l.seats.items c.args.scripts.now l.worker c.index-scripts-worker.result i.seats (omega arith);
      handles = rw c.in_ok-push.ensures.items (tasks_more (λ h. task h.promise.gate.now h.promise.worker h.promise.script.now h.promise.turns) l.handles.items c.in_ok-spawn_with.field-0 c.args.gate.now c.args.scripts.now l.worker c.index-scripts-worker.result c.args.turns i.handles (omega arith) c.index-scripts-worker.is (search rules));
      count = omega (arith, i.count, c.in_ok-push.ensures.len);
    }
