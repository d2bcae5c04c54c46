use Rattle.tr_model.proofs.Sorted.{up_to_less}
use Rattle.tr_table.proofs.table.Table.pull.Goals as goal

pub invariant_of-self : goal.invariant_of-self
invariant_of-self c = record { roster = c.self.invariant.roster; few = c.self.invariant.few; ordered = record { kept = c.remove-pulled.ensures.kept; numbered = rw c.remove-pulled.ensures.waiting (up_to_less _ _ _ c.self.invariant.ordered.numbered) }; settled = c.self.invariant.settled }
