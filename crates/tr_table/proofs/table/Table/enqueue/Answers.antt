use Rattle.std.proofs.Common.{refl}
use Rattle.tr_model.proofs.Sorted.{up_to_more}
use Rattle.tr_table.proofs.Orders.{below_next}
use Rattle.tr_table.proofs.table.Table.enqueue.Goals as goal

pub push-requires-clause-last : goal.push-requires-clause-last
push-requires-clause-last c = below_next _ _ c.self.invariant.ordered.numbered

pub invariant_of-self : goal.invariant_of-self
invariant_of-self c = record { roster = c.self.invariant.roster; few = c.self.invariant.few; ordered = record { kept = c.push.ensures.kept; numbered = rw c.push.ensures.waiting (up_to_more _ _ _ c.self.invariant.ordered.numbered refl) }; settled = c.self.invariant.settled }
