use Rattle.std.proofs.Common.{◌∙◌, Bool, find, ap, sym}
use Rattle.tr_tracee.specs.declared.thread.Thread.{Thread}
use Rattle.tr_wait.specs.Words.{asks_for}
use Rattle.tr_model.specs.Waits.{asked_tracees}
use Rattle.tr_threads.specs.Tracing.{if_passes}
use Rattle.tr_table.specs.View.{View}
use Rattle.tr_threads.specs.Waits.{is_report}
use Rattle.tr_table.proofs.Asked.{any_found, one_found}
use Rattle.tr_table.proofs.table.Table.reported.Goals as goal

pub returns-in-Some : goal.returns-in-Some
returns-in-Some c =
    let a = c.args.actor in
    let r : Thread → Bool = λ t. is_report c.args.number t.report in
    c.with_report.ensures
    ∙ (ap (if_passes r) c.tracee.ensures
    ∙ (sym (one_found (asks_for c.args.which) a c.self.inside.threads c.in-Some.id c.in-Some.ensures c.self.invariant.roster.distinct r) ∙ ap (λ (v : View). find r (asked_tracees v.table a c.args.which)) c.self.view_is))

pub returns-in-None : goal.returns-in-None
returns-in-None c =
    let a = c.args.actor in
    let r : Thread → Bool = λ t. is_report c.args.number t.report in
    c.first_reporting.ensures ∙ (sym (any_found (asks_for c.args.which) a c.self.inside.threads c.in-None.ensures r) ∙ ap (λ (v : View). find r (asked_tracees v.table a c.args.which)) c.self.view_is)
