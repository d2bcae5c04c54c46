use Rattle.std.proofs.Common.{◌≡◌, ◌∙◌, ap, arith, length}
use Rattle.tr_threads.specs.Held.{held_count}
use Rattle.tr_table.proofs.Helds.{few_of_all}
use Rattle.tr_steps.proofs.steps.Step.grow.Goals as goal

pub invariant_of-self-2 : goal.invariant_of-self-2
invariant_of-self-2 c p =
    let was = c.self.inside in
    let v = c.self.view_is in
    let l = c.in_ok-reserve.ensures.len in
    let o = c.in_ok-reserve.ensures.ok in
    let small = c.reserve.new.self.small in
    let a = c.most_ended-can_end.ensures in
    let w = ap (λ x. length x.work.table.waiting) v in
    let e = ap (λ x. length x.work.table.threads) v in
    let f = few_of_all was.table.table.threads in
    let z : length was.ended.items ≡ 0 = ap (λ x. length x.work.ended) v ∙ ap (λ x. length x.work.ended) c.requires.empty in
    let t = c.in_ok-reserve-3.ensures.table in
    let q : length c.reserve-3.new.self.table.waiting ≡ length was.table.table.waiting = ap (λ T. length T.waiting) t in
    let r : held_count c.reserve-3.new.self.table.threads ≡ held_count was.table.table.threads = ap (λ T. held_count T.threads) t in
    let n = c.requires.numbers in
    let x : c.reserve-3.new.self.table.accepted ≡ c.args.self.now.work.table.accepted = ap (λ T. T.accepted) t ∙ ap (λ x. x.work.table.accepted) v in
    let y : c.reserve-3.new.self.table.raised ≡ c.args.self.now.work.table.raised = ap (λ T. T.raised) t ∙ ap (λ x. x.work.table.raised) v in
    record {
      ended = omega arith;
      news = c.in_ok-reserve-2.ensures.room;
      waiting = c.in_ok-reserve-3.ensures.ok;
      accepted = rw x n.0;
      raised = rw y n.1;
    }
