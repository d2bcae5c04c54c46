use Rattle.tr_table.proofs.Orders.{up_to_without}
use Rattle.tr_table.proofs.table.Table.take_sig.Goals as goal

pub invariant_of-self : goal.invariant_of-self
invariant_of-self c = record { roster = c.self.invariant.roster; few = c.self.invariant.few; ordered = record { kept = c.take_first.ensures.kept; numbered = rw c.take_first.ensures.waiting (up_to_without _ _ _ _ c.self.invariant.ordered.numbered) }; settled = c.self.invariant.settled }
