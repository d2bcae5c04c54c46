use Rattle.std.proofs.Common.{◌∙◌, ◌==◌, List, filter, not, ap, sym}
use Rattle.std.specs.List.{list_any}
use Rattle.tr_tracee.specs.declared.thread.Thread.{Thread}
use Rattle.tr_tracee.specs.Threads.{in_group, is_traced}
use Rattle.tr_threads.specs.Rosters.{RosterView}
use Rattle.tr_threads.proofs.Counting.{any_counted}
use Rattle.tr_threads.proofs.threads.Threads.has_traced.Goals as goal

pub returns : goal.returns
returns c =
    c.has_traced.ensures
    ∙ (ap (λ (r : RosterView). not (r.traced == 0)) (c.self.invariant.rostered.told c.args.tgid)
    ∙ (sym (any_counted is_traced (filter (in_group c.args.tgid) c.self.inside.list.items)) ∙ ap (λ (ts : List Thread). list_any is_traced (filter (in_group c.args.tgid) ts)) c.self.view_is))
