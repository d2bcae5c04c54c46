use Rattle.std.proofs.Common.{◌≡◌, ◌∙◌, ap, arith, length}
use Rattle.tr_threads.specs.Held.{held_count}
use Rattle.tr_table.specs.View.{View}
use Rattle.tr_steps.proofs.Helds.{helds_marked}
use Rattle.tr_steps.proofs.steps.Step.mark_all.Goals as goal

pub invariant_of-self : goal.invariant_of-self
invariant_of-self c p =
    let was = c.self.inside.table.table in
    let b = c.change_members.ensures in
    let x : held_count c.change_members.new.self.table.threads ≡ held_count was.threads = ap (λ (v : View). held_count v.table.threads) b ∙ helds_marked c.args.tgid was.threads in
    let y : length c.change_members.new.self.table.waiting ≡ length was.waiting = ap (λ (v : View). length v.table.waiting) b in
    let o = c.self.invariant p in
    let e = o.ended in
    record {
      ended = omega arith;
      news = o.news;
      waiting = rw (ap (λ (v : View). v.room) b) o.waiting;
      accepted = rw (ap (λ (v : View). v.table.accepted) b) o.accepted;
      raised = rw (ap (λ (v : View). v.table.raised) b) o.raised;
    }
