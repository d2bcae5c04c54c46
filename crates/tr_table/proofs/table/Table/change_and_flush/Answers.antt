use Rattle.std.proofs.Common.{◌≡◌}
use Rattle.tr_tracee.specs.declared.thread.Thread.{Thread}
use Rattle.tr_threads.specs.Changes.{thread_changed_by}
use Rattle.tr_threads.proofs.Keeping.{same_changed}
use Rattle.tr_table.proofs.Rosters.{roster_of_members}
use Rattle.tr_table.proofs.Unsettling.{members_changed, moved_members}
use Rattle.tr_table.proofs.table.Table.change_and_flush.Goals as goal

pub invariant_of-self : goal.invariant_of-self
invariant_of-self c =
    let g = c.args.tgid in
    let ts = c.self.inside.threads in
    let xs = c.self.inside.groups in
    let kept : (t : Thread) → (thread_changed_by c.args.change.now t).group ≡ t.group = λ t. (same_changed c.args.change.now t).group in
    rw (c.change_members.ensures, c.touch.ensures) (record {
      roster = roster_of_members _ _ _ c.self.invariant.roster;
      few = c.self.invariant.few;
      ordered = c.self.invariant.ordered;
      settled = moved_members _ g c.self.inside.unsettled ts _ xs (λ n ne. members_changed g n (thread_changed_by c.args.change.now) kept ne ts) c.self.invariant.settled;
    })
