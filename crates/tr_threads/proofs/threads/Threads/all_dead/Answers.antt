use Rattle.std.proofs.Common.{◌∙◌, ◌==◌, List, filter, length, ap, sym}
use Rattle.std.specs.List.{list_all}
use Rattle.tr_tracee.specs.declared.thread.Thread.{Thread}
use Rattle.tr_tracee.specs.Lives.{is_dead}
use Rattle.tr_tracee.specs.Threads.{in_group}
use Rattle.tr_threads.specs.Rosters.{RosterView}
use Rattle.tr_threads.proofs.ByIds.{all_counted}
use Rattle.tr_threads.proofs.threads.Threads.all_dead.Goals as goal

pub returns : goal.returns
returns c =
    c.all_dead.ensures
    ∙ (ap (λ (r : RosterView). r.dead == length r.ids) (c.self.invariant.rostered.told c.args.tgid)
    ∙ (sym (all_counted (λ (t : Thread). is_dead t.life) (filter (in_group c.args.tgid) c.self.inside.list.items)) ∙ ap (λ (ts : List Thread). list_all (λ (t : Thread). is_dead t.life) (filter (in_group c.args.tgid) ts)) c.self.view_is))
