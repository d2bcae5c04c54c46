use Rattle.std.proofs.Common.{◌≡◌, ◌≤◌, ◌∙◌, ℕ, List, find, map, ap, subst}
use Rattle.tr_tracee.specs.declared.thread.Thread.{Thread}
use Rattle.tr_model.specs.Journals.{occurs}
use Rattle.tr_model.specs.Tables.{ids_of}
use Rattle.tr_threads.specs.declared.tracee_list.Listed.{Listed}
use Rattle.tr_threads.specs.TraceeLists.{ids_under}
use Rattle.tr_threads.specs.Tracing.{first_of, reports}
use Rattle.tr_threads.proofs.Reports.{first_listed}
use Rattle.tr_threads.proofs.threads.Threads.first_reporting.Goals as goal

pub under-requires : goal.under-requires
under-requires c = c.self.invariant.traced.reporting.rises

pub returns : goal.returns
returns c =
    let a = c.args.actor in
    let ts = c.self.inside.list.items in
    let ls = c.self.inside.tracing.reporting.rows.items in
    let p = reports a c.args.number in
    let once : (n : ℕ) → occurs n (ids_of ts) ≤ 1 = λ n. rw (← c.self.invariant.rostered.indexed) (c.self.invariant.rostered.once n) in
    c.first_among.ensures
    ∙ (ap (λ (ks : List Listed). first_of p c.args.self.now (map (λ l. l.id) ks)) c.under.ensures
    ∙ subst (λ (us : List Thread). first_of p us (ids_under a ls) ≡ find p us) c.self.view_is (first_listed a c.args.number ts ls c.self.invariant.traced.reporting once))
