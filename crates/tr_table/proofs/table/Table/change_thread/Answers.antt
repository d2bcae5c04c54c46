use Rattle.std.proofs.Common.{◌≡◌, ◌∙◌, ◌==◌, ℕ, false, ap, get_or, map, refl, subst, sym}
use Rattle.std.proofs.lemmas.Bool.{ne_eqb}
use Rattle.tr_tracee.specs.declared.thread.Thread.{Thread}
use Rattle.tr_tracee.specs.Threads.{at_thread}
use Rattle.tr_model.specs.Moves.{changed}
use Rattle.tr_threads.specs.Changes.{thread_changed_by}
use Rattle.tr_table.specs.View.{View}
use Rattle.tr_threads.proofs.Keeping.{same_changed}
use Rattle.tr_threads.proofs.Onlys.{only_changed}
use Rattle.tr_threads.proofs.Members.{unmoved}
use Rattle.tr_table.proofs.Rosters.{roster_set}
use Rattle.tr_table.proofs.Unsettling.{moved_members}
use Rattle.tr_table.proofs.table.Table.change_thread.Goals as goal

pub invariant_of-self : goal.invariant_of-self
invariant_of-self c =
    let ts = c.self.inside.threads in
    let xs = c.self.inside.groups in
    let x = c.at.result.now in
    let i = c.in-Some.place in
    let t = get_or ts i x in
    let y = thread_changed_by c.args.change.now t in
    let same = same_changed c.args.change.now t in
    let mine : t ≡ x = sym (c.at.ensures x) in
    rw (c.change_at.ensures x, c.touch.ensures) (record {
      roster = roster_set i x y ts same c.self.invariant.roster;
      few = c.self.invariant.few;
      ordered = c.self.invariant.ordered;
      settled = moved_members _ x.group c.self.inside.unsettled ts _ xs (λ n ne. (
          let out : (t.group == n) ≡ false = ne_eqb t.group n (λ k. ne (sym (ap (λ (z : Thread). z.group) mine) ∙ k)) in
          unmoved n ts i x y out (ap (λ (m : ℕ). m == n) same.group ∙ out)
          )) c.self.invariant.settled;
    })

pub returns-in-Some-clause-table : goal.returns-in-Some-clause-table
returns-in-Some-clause-table c =
    let ts = c.self.inside.threads in
    let x = c.at.result.now in
    let f = thread_changed_by c.args.change.now in
    let e : c.change_at.new.self ≡ map (at_thread c.args.id f) ts = c.change_at.ensures x ∙ (c.in-Some.ensures.place.1 f x _ refl ∙ sym (only_changed c.args.id f ts (c.self.invariant.roster.distinct c.args.id))) in
    rw (e, ← c.self.view_is) refl

pub returns-in-Some-clause-only : goal.returns-in-Some-clause-only
returns-in-Some-clause-only c =
    let f = thread_changed_by c.args.change.now in
    subst (λ (v : View). map (at_thread c.args.id f) v.table.threads ≡ changed c.args.id f v.table.threads) c.self.view_is (only_changed c.args.id f c.self.inside.threads (c.self.invariant.roster.distinct c.args.id))

pub returns-in_default-clause-table : goal.returns-in_default-clause-table
returns-in_default-clause-table c =
    let f = thread_changed_by c.args.change.now in
    let here : map (at_thread c.args.id f) c.self.inside.threads ≡ c.self.inside.threads = only_changed c.args.id f c.self.inside.threads (c.self.invariant.roster.distinct c.args.id) ∙ c.in_default.ensures.place.0 f in
    let same : map (at_thread c.args.id f) c.args.self.now.table.threads ≡ c.args.self.now.table.threads = subst (λ (v : View). map (at_thread c.args.id f) v.table.threads ≡ v.table.threads) c.self.view_is here in
    ap (λ ts. record c.args.self.now { table = record c.args.self.now.table { threads = ts } }) (sym same)

pub returns-in_default-clause-only : goal.returns-in_default-clause-only
returns-in_default-clause-only c =
    let f = thread_changed_by c.args.change.now in
    subst (λ (v : View). map (at_thread c.args.id f) v.table.threads ≡ changed c.args.id f v.table.threads) c.self.view_is (only_changed c.args.id f c.self.inside.threads (c.self.invariant.roster.distinct c.args.id))
