use Rattle.std.proofs.Common.{ap, subst}
use Rattle.tr_model.specs.Journals.{IsSorted}
use Rattle.tr_queues.proofs.Standing.{standing_sorted}
use Rattle.tr_table.proofs.table.Table.waiting.Goals as goal

pub returns-clause-sorted : goal.returns-clause-sorted
returns-clause-sorted c = subst IsSorted (ap (λ v. v.table.waiting) c.self.view_is) (standing_sorted _ c.self.invariant.ordered.kept.sorted)
