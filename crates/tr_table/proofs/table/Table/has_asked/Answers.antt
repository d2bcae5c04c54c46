use Rattle.std.proofs.Common.{◌∙◌, filter, is_some, ap, sym}
use Rattle.std.specs.List.{list_any}
use Rattle.tr_tracee.specs.declared.thread.Thread.{Thread}
use Rattle.tr_tracee.specs.Threads.{is_tracee_of}
use Rattle.tr_wait.specs.Words.{asks_for}
use Rattle.tr_table.specs.View.{View}
use Rattle.tr_table.proofs.Asked.{any_asked, copied_some, one_asked}
use Rattle.tr_table.proofs.table.Table.has_asked.Goals as goal

pub returns-in-Some : goal.returns-in-Some
returns-in-Some c =
    let a = c.args.actor in
    let asks = asks_for c.args.which in
    let ts = c.self.inside.threads in
    c.is_some.ensures
    ∙ (sym (copied_some c.tracee.result)
    ∙ (ap is_some c.tracee.ensures
    ∙ (sym (one_asked asks a ts c.in-Some.id c.in-Some.ensures c.self.invariant.roster.distinct) ∙ ap (λ (v : View). list_any (λ (t : Thread). asks t.id) (filter (is_tracee_of a) v.table.threads)) c.self.view_is)))

pub returns-in-None : goal.returns-in-None
returns-in-None c =
    let a = c.args.actor in
    let asks = asks_for c.args.which in
    c.has_tracee.ensures ∙ (sym (any_asked asks a c.self.inside.threads c.in-None.ensures) ∙ ap (λ (v : View). list_any (λ (t : Thread). asks t.id) (filter (is_tracee_of a) v.table.threads)) c.self.view_is)
