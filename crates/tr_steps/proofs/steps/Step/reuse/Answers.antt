use Rattle.std.proofs.Common.{◌≡◌, ◌∙◌, ◌≤◌, ap, arith, length, rules, vec_capacity}
use Rattle.tr_table.proofs.Helds.{few_of_all}
use Rattle.tr_steps.proofs.steps.Step.reuse.Goals as goal

pub invariant_of-self : goal.invariant_of-self
invariant_of-self c p =
    let was = c.self.inside in
    let v = c.self.view_is in
    let o = c.requires.empty in
    let ended : length was.ended.items ≡ 0 = ap (λ x. length x.work.ended) v ∙ ap (λ x. length x.work.ended) o in
    let few : c.most_ended.result ≤ vec_capacity was.ended = search rules in
    let held = few_of_all was.table.table.threads in
    let T = ap (λ x. x.work.table) v in
    let w = ap (λ T. length T.waiting) T in
    let t = ap (λ T. length T.threads) T in
    let n = c.requires.numbers in
    record {
      ended = omega (arith, ended, few, held, w, t, c.most_ended.ensures);
      news = search rules;
      waiting = search rules;
      accepted = rw (ap (λ T. T.accepted) T) n.0;
      raised = rw (ap (λ T. T.raised) T) n.1;
    }
