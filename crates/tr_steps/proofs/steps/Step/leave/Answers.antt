use Rattle.std.proofs.Common.{◌≡◌, ap, arith, length, map}
use Rattle.tr_tracee.specs.Ends.{begun_to_leave}
use Rattle.tr_tracee.specs.Threads.{at_group}
use Rattle.tr_threads.specs.Held.{held_count}
use Rattle.tr_steps.proofs.Helds.{helds_leaving}
use Rattle.tr_steps.proofs.steps.Step.leave.Goals as goal

pub invariant_of-self : goal.invariant_of-self
invariant_of-self c p =
    let o = c.self.invariant p in
    let was = c.self.inside.table.table in
    let now = c.change_and_flush.new.self in
    let x = o.ended in
    let u = c.change_and_flush.ensures.capacity in
    let v = c.change_and_flush.ensures.len in
    let a : length now.table.waiting ≡ length was.waiting = ap (λ T. length T.table.waiting) c.change_and_flush.ensures.table in
    let b : held_count now.table.threads ≡ held_count (map (at_group c.args.tgid (begun_to_leave c.args.kill c.args.end.now)) was.threads) = ap (λ T. held_count T.table.threads) c.change_and_flush.ensures.table in
    let h = helds_leaving c.args.tgid c.args.kill c.args.end.now was.threads in
    record {
      ended = omega arith;
      news = o.news;
      waiting = rw (ap (λ T. T.room) c.change_and_flush.ensures.table) o.waiting;
      accepted = rw (ap (λ T. T.table.accepted) c.change_and_flush.ensures.table) o.accepted;
      raised = rw (ap (λ T. T.table.raised) c.change_and_flush.ensures.table) o.raised;
    }
