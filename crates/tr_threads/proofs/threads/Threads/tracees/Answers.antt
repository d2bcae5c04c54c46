use Rattle.std.proofs.Common.{◌∙◌, ◌≡◌, List, ap, filter, map, true}
use Rattle.std.specs.List.{All}
use Rattle.std.proofs.lemmas.Bool.{eqb-true}
use Rattle.std.proofs.lemmas.List.Elements.{All-same, All-weaker, filter_passes}
use Rattle.tr_tracee.specs.declared.thread.Thread.{Thread}
use Rattle.tr_tracee.specs.Threads.{is_tracee_of}
use Rattle.tr_model.specs.Tables.{ids_of}
use Rattle.tr_threads.specs.TraceeLists.{is_under}
use Rattle.tr_threads.specs.declared.tracee_list.Listed.{Listed}
use Rattle.tr_threads.proofs.Reports.{tracees_listed}
use Rattle.tr_threads.proofs.threads.Threads.tracees.Goals as goal

pub under-requires : goal.under-requires
under-requires c = c.self.invariant.traced.tracees.rises

pub returns-clause-ids : goal.returns-clause-ids
returns-clause-ids c =
    let own = c.self.inside in
    ap (λ (ls : List Listed). map (λ l. l.id) ls) c.under.ensures
    ∙ (tracees_listed c.args.actor own.list.items own.tracing.tracees.rows.items c.self.invariant.traced.tracees ∙ ap (λ (ts : List Thread). ids_of (filter (is_tracee_of c.args.actor) ts)) c.self.view_is)

pub returns-clause-tracer : goal.returns-clause-tracer
returns-clause-tracer c =
    let a = c.args.actor in
    let rows = c.self.inside.tracing.tracees.rows.items in
    let under : All (λ (l : Listed). is_under a l ≡ true) (filter (is_under a) rows) = filter_passes (is_under a) rows in
    All-same (λ (l : Listed). l.tracer ≡ a) _ _ c.under.ensures (All-weaker _ _ (λ l h. eqb-true l.tracer a h) (filter (is_under a) rows) under)
