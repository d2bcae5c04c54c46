use Rattle.std.proofs.Common.{◌≡◌, ◌<◌, ◌∙◌, None, ap, filter, length}
use Rattle.tr_tracee.specs.Threads.{in_group}
use Rattle.tr_model.specs.Tables.{thread_in}
use Rattle.tr_table.proofs.Rosters.{roster_grown}
use Rattle.tr_table.proofs.Unsettling.{grown}
use Rattle.tr_table.proofs.table.Table.add.Goals as goal

pub invariant_of-self : goal.invariant_of-self
invariant_of-self c =
    let t = c.args.thread.now in
    let ts = c.self.inside.threads in
    let e = ap (λ v. v.table.threads) c.self.view_is in
    let new : thread_in ts t.id ≡ None = ap (λ us. thread_in us t.id) e ∙ c.requires.new_id in
    let room : length (filter (in_group t.group) ts) < 64 = rw e c.requires.room in
    record { roster = roster_grown c.add.result t ts _ c.add.ensures.ok c.add.ensures.err new room c.self.invariant.roster; few = c.self.invariant.few; ordered = c.self.invariant.ordered; settled = rw c.touch.ensures (grown _ c.add.result t c.self.inside.unsettled ts _ c.self.inside.groups c.add.ensures.ok c.add.ensures.err c.self.invariant.settled) }
