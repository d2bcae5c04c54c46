use Rattle.tr_model.proofs.Sorted.{up_to_filter}
use Rattle.tr_table.proofs.table.Table.flush.Goals as goal

pub invariant_of-self : goal.invariant_of-self
invariant_of-self c = record { roster = c.self.invariant.roster; few = c.self.invariant.few; ordered = record { kept = c.flush.ensures.kept; numbered = rw c.flush.ensures.waiting (up_to_filter _ _ _ c.self.invariant.ordered.numbered) }; settled = c.self.invariant.settled }
