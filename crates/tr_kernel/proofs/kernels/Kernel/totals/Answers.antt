use Rattle.std.proofs.Common.{◌≡◌, ◌+◌, ◌∙◌, sym, ap, subst}
use Rattle.tr_model.specs.declared.fates.Totals.{Totals}
use Rattle.tr_model.specs.Journals.{totals}
use Rattle.tr_model.proofs.Tally.{fates_sum}
use Rattle.tr_starts.specs.Starts.{table_of}
use Rattle.tr_kernel.specs.Private.{tally}
use Rattle.tr_kernel.specs.States.{State}
use Rattle.tr_kernel.proofs.Histories.{counted, tally_is}
use Rattle.tr_kernel.proofs.kernels.Kernel.totals.Goals as goal

pub returns-clause-totals : goal.returns-clause-totals
returns-clause-totals c =
    c.totals.ensures ∙ (ap (tally c.self.inside.fates.fates) (counted _ c.self.invariant.0) ∙ (tally_is _ c.self.invariant.0 ∙ ap (λ (k : State). totals (table_of k.start) k.journal k.table) c.self.view_is))

pub returns-clause-sum : goal.returns-clause-sum
returns-clause-sum c =
    subst (λ (t : Totals). t.pending + t.merged + t.delivered + t.suppressed + t.flushed ≡ t.accepted)
    (sym (c.totals.ensures ∙ (ap (tally c.self.inside.fates.fates) (counted _ c.self.invariant.0) ∙ tally_is _ c.self.invariant.0)))
    (fates_sum (table_of c.self.inside.start) c.self.inside.step.work.table c.self.inside.journal.entries)
