use Rattle.std.proofs.Common.{◌≡◌, ◌∙◌, ◌+◌, List, ℕ, ap, arith, if◌then◌else◌, length, map, nat_lt}
use Rattle.tr_model.specs.Journals.{occurs}
use Rattle.tr_index.specs.Multisets.{MultisetView, lowered}
use Rattle.tr_index.proofs.Following.{length-without, occurs_without, rises_without, without}
use Rattle.tr_index.proofs.multiset.Multiset.close_up.Goals as goal

pub invariant_of-self : goal.invariant_of-self
invariant_of-self c = rw (c.lower_above.ensures.items, c.drop_number.ensures.items) (rises_without c.args.n c.self.inside.numbers.items c.self.invariant)

pub returns-clause-counted : goal.returns-clause-counted
returns-clause-counted c m =
    let n = c.args.n in
    let left : c.lower_above.new.numbers.items ≡ without n c.self.inside.numbers.items = c.lower_above.ensures.items ∙ ap (map (lowered n)) c.drop_number.ensures.items in
    ap (occurs m) left ∙ (occurs_without m n c.self.inside.numbers.items ∙ ap (λ (t : MultisetView). occurs (if nat_lt m n then m else m + 1) t.numbers) c.self.view_is)

pub returns-clause-sized : goal.returns-clause-sized
returns-clause-sized c =
    let n = c.args.n in
    let xs = c.self.inside.numbers.items in
    let left : c.lower_above.new.numbers.items ≡ without n xs = c.lower_above.ensures.items ∙ ap (map (lowered n)) c.drop_number.ensures.items in
    omega (arith, ap (λ (ys : List ℕ). length ys) left, length-without n xs, ap (λ (t : MultisetView). length t.numbers) c.self.view_is)
