use Rattle.std.proofs.Common.{◌≡◌, ◌==◌, ◌+◌, ◌∙◌, Bool, filter, take, get_or, if◌then◌else◌, arith, ap, sym}
use Rattle.std.proofs.lemmas.Bool.{eq-eqb, ne_eqb}
use Rattle.tr_tracee.specs.declared.thread.Thread.{Thread}
use Rattle.tr_tracee.specs.Threads.{in_group}
use Rattle.tr_threads.specs.Rosters.{roster_of, with_last}
use Rattle.tr_threads.proofs.ThreadLists.{ids_length}
use Rattle.tr_threads.proofs.Rostering.{collected, room_for, small}
use Rattle.tr_threads.proofs.roster_list.Roster.collect.Goals as goal
use Rattle.tr_threads.proofs.roster_list.Roster.collect.Goals.{then-thread-tgid, else-thread-tgid}

pub push-requires-clause-room : goal.push-requires-clause-room
push-requires-clause-room c =
    let ts = c.args.threads.now in
    let i = c.loop-thread.thread-index in
    let x = c.thread-item.result in
    let mine : (get_or ts i x).group ≡ c.args.tgid = ap (λ (t : Thread). t.group) (sym c.thread-item.is) ∙ c.if-thread-tgid.true in
    rw c.loop-thread.invariant (omega (arith, room_for c.args.tgid ts i x (omega (arith, c.loop-thread-test.true)) mine c.requires, ids_length (filter (in_group c.args.tgid) (take i ts))))

pub push-requires-clause-small : goal.push-requires-clause-small
push-requires-clause-small c =
    let ts = c.args.threads.now in
    let i = c.loop-thread.thread-index in
    let x = c.thread-item.result in
    let mine : (get_or ts i x).group ≡ c.args.tgid = ap (λ (t : Thread). t.group) (sym c.thread-item.is) ∙ c.if-thread-tgid.true in
    rw c.loop-thread.invariant (small (filter (in_group c.args.tgid) (take i ts)) (omega (arith, room_for c.args.tgid ts i x (omega (arith, c.loop-thread-test.true)) mine c.requires)))

pub loop-thread-preserved : goal.loop-thread-preserved
loop-thread-preserved c =
    let ts = c.args.threads.now in
    let i = c.loop-thread.thread-index in
    let x = c.thread-item.result in
    let g = c.args.tgid in
    let r = roster_of (filter (in_group g) (take i ts)) in
    let next : roster_of (filter (in_group g) (take (i + 1) ts)) ≡ (if x.group == g then with_last x r else r) = collected g ts i x (omega (arith, c.loop-thread-test.true)) ∙ ap (λ (t : Thread). if t.group == g then with_last t r else r) (sym c.thread-item.is) in
    elim c.if-thread-tgid.branch [
      | then-thread-tgid w ↦
          w.roster-is
          ∙ (w.push.ensures ∙ (ap (with_last x) c.loop-thread.invariant ∙ sym (next ∙ ap (λ (b : Bool). if b then with_last x r else r) (eq-eqb x.group g w.if-thread-tgid.true))))
      | else-thread-tgid w ↦
          w.roster-is ∙ (c.loop-thread.invariant ∙ sym (next ∙ ap (λ (b : Bool). if b then with_last x r else r) (ne_eqb x.group g w.if-thread-tgid.false)))
    ]
