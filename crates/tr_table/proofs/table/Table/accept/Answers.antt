use Rattle.std.proofs.Common.{◌+◌, ap, arith, subst}
use Rattle.tr_model.proofs.Sorted.{up_to_later}
use Rattle.tr_queues.specs.Queues.{AllBelow}
use Rattle.tr_table.proofs.Orders.{below_next}
use Rattle.tr_table.proofs.table.Table.accept.Goals as goal

pub invariant_of-self : goal.invariant_of-self
invariant_of-self c =
    let h = c.self.invariant.ordered in
    record { roster = c.self.invariant.roster; few = c.self.invariant.few; ordered = record { kept = h.kept; numbered = up_to_later _ _ _ (omega arith) h.numbered }; settled = c.self.invariant.settled }

pub returns-clause-last : goal.returns-clause-last
returns-clause-last c =
    let e = ap (λ v. v.table.waiting) c.self.view_is in
    subst (λ qs. AllBelow (c.self.inside.accepted + 1) qs) e (below_next _ _ c.self.invariant.ordered.numbered)
