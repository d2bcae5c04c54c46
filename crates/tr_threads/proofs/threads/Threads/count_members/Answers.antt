use Rattle.std.proofs.Common.{◌∙◌, List, filter, length, ap}
use Rattle.tr_tracee.specs.declared.thread.Thread.{Thread}
use Rattle.tr_tracee.specs.Threads.{in_group}
use Rattle.tr_threads.specs.Rosters.{RosterView}
use Rattle.tr_threads.proofs.ThreadLists.{ids_length}
use Rattle.tr_threads.proofs.threads.Threads.count_members.Goals as goal

pub returns : goal.returns
returns c =
    c.count.ensures
    ∙ (ap (λ (r : RosterView). length r.ids) (c.self.invariant.rostered.told c.args.tgid)
    ∙ (ids_length (filter (in_group c.args.tgid) c.self.inside.list.items) ∙ ap (λ (ts : List Thread). length (filter (in_group c.args.tgid) ts)) c.self.view_is))
