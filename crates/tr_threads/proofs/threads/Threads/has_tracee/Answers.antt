use Rattle.std.proofs.Common.{◌∙◌, List, ap}
use Rattle.std.specs.List.{list_any}
use Rattle.tr_tracee.specs.declared.thread.Thread.{Thread}
use Rattle.tr_tracee.specs.Threads.{is_tracee_of}
use Rattle.tr_threads.proofs.Reports.{any_tracee}
use Rattle.tr_threads.proofs.threads.Threads.has_tracee.Goals as goal

pub returns : goal.returns
returns c =
    let own = c.self.inside in
    c.contains.ensures ∙ (any_tracee c.args.actor own.list.items own.tracing.tracees.rows.items c.self.invariant.traced.tracees ∙ ap (λ (ts : List Thread). list_any (is_tracee_of c.args.actor) ts) c.self.view_is)

pub contains-requires : goal.contains-requires
contains-requires c = c.self.invariant.traced.tracees.rises
