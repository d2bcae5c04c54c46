use Rattle.std.proofs.Common.{◌∙◌, List, filter, ap}
use Rattle.tr_tracee.specs.declared.thread.Thread.{Thread}
use Rattle.tr_tracee.specs.Threads.{in_group}
use Rattle.tr_model.specs.Tables.{ids_of}
use Rattle.tr_threads.specs.Rosters.{RosterView}
use Rattle.tr_threads.proofs.threads.Threads.ids_in.Goals as goal

pub returns-clause-ids : goal.returns-clause-ids
returns-clause-ids c = c.ids.ensures ∙ (ap (λ (r : RosterView). r.ids) (c.self.invariant.rostered.told c.args.tgid) ∙ ap (λ (ts : List Thread). ids_of (filter (in_group c.args.tgid) ts)) c.self.view_is)

pub returns-clause-once : goal.returns-clause-once
returns-clause-once c n = rw (← c.self.view_is, ← c.self.invariant.rostered.indexed) (c.self.invariant.rostered.once n)
