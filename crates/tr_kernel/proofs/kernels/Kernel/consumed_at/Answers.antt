use Rattle.std.proofs.Common.{◌∙◌, ap}
use Rattle.tr_kernel.specs.Laws.{report_of}
use Rattle.tr_kernel.proofs.Waited.{at_entry, once_where, raised_where, waits_exactly}
use Rattle.tr_kernel.proofs.kernels.Kernel.consumed_at.Goals as goal

pub returns-clause-exactly : goal.returns-clause-exactly
returns-clause-exactly c =
    let e = c.report_of.ensures ∙ ap report_of (at_entry _ c.args.position c.entry_at.result c.entry_at.ensures.none c.entry_at.ensures.at) in
    rw (← c.self.view_is) (waits_exactly _ c.self.invariant.0 c.args.position c.report_of.result e)

pub returns-clause-raised : goal.returns-clause-raised
returns-clause-raised c =
    let e = c.report_of.ensures ∙ ap report_of (at_entry _ c.args.position c.entry_at.result c.entry_at.ensures.none c.entry_at.ensures.at) in
    rw (← c.self.view_is) (raised_where _ c.self.invariant.0 c.args.position c.report_of.result e)

pub returns-clause-once : goal.returns-clause-once
returns-clause-once c =
    let e = c.report_of.ensures ∙ ap report_of (at_entry _ c.args.position c.entry_at.result c.entry_at.ensures.none c.entry_at.ensures.at) in
    rw (← c.self.view_is) (once_where _ c.self.invariant.0 c.args.position c.report_of.result e)
