use Rattle.std.proofs.Common.{◌≡◌, ◌∙◌, ◌==◌, ℕ, false, ap, get_or, sym}
use Rattle.std.proofs.lemmas.Bool.{ne_eqb}
use Rattle.tr_tracee.specs.declared.thread.Thread.{Thread}
use Rattle.tr_threads.specs.Changes.{thread_changed_by}
use Rattle.tr_threads.proofs.Keeping.{same_changed}
use Rattle.tr_threads.proofs.Members.{unmoved}
use Rattle.tr_table.proofs.Rosters.{roster_set}
use Rattle.tr_table.proofs.Unsettling.{moved_members}
use Rattle.tr_table.proofs.table.Table.raise_at.Goals as goal

pub invariant_of-self : goal.invariant_of-self
invariant_of-self c =
    let ts = c.self.inside.threads in
    let xs = c.self.inside.groups in
    let x = c.at-thread.result.now in
    let i = c.args.place in
    let t = get_or ts i x in
    let y = thread_changed_by c.args.change.now t in
    let same = same_changed c.args.change.now t in
    let mine : t ≡ x = sym (c.at-thread.ensures x) in
    rw (c.change_at.ensures x, c.touch.ensures) (record {
      roster = roster_set i x y ts same c.self.invariant.roster;
      few = c.self.invariant.few;
      ordered = c.self.invariant.ordered;
      settled = moved_members _ x.group c.self.inside.unsettled ts _ xs (λ n ne. (
          let out : (t.group == n) ≡ false = ne_eqb t.group n (λ k. ne (sym (ap (λ (z : Thread). z.group) mine) ∙ k)) in
          unmoved n ts i x y out (ap (λ (m : ℕ). m == n) same.group ∙ out)
          )) c.self.invariant.settled;
    })
