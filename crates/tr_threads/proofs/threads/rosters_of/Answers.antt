use Rattle.std.proofs.Common.{◌≡◌, ◌==◌, ◌+◌, ◌<◌, ◌++◌, ◌∷◌, [], ◌∙◌, List, filter, length, take, if◌then◌else◌, arith, ap, subst, sym}
use Rattle.std.proofs.lemmas.List.{take_more}
use Rattle.tr_tracee.specs.declared.thread.Thread.{Thread}
use Rattle.tr_tracee.specs.Threads.{in_group}
use Rattle.tr_threads.specs.Rosters.{RosterView, roster_of, with_last}
use Rattle.tr_threads.proofs.ThreadLists.{ids_length}
use Rattle.tr_threads.proofs.Rostering.{room_before, roster_added, small}
use Rattle.tr_threads.proofs.threads.rosters_of.Goals as goal

room : goal.push-requires-clause-room
room c =
    let ts = c.args.threads.now in
    let i = c.loop-thread.thread-index in
    let x = c.thread-item.result in
    let before : length (filter (in_group x.group) (take i ts)) < 64 = subst (λ (t : Thread). length (filter (in_group t.group) (take i ts)) < 64) (sym c.thread-item.is) (room_before ts i x (omega (arith, c.loop-thread-test.true)) c.requires) in
    rw (c.loop-thread.invariant x.group) (omega (arith, before, ids_length (filter (in_group x.group) (take i ts))))

pub push-requires-clause-room : goal.push-requires-clause-room
push-requires-clause-room c = room c

pub push-requires-clause-small : goal.push-requires-clause-small
push-requires-clause-small c =
    let ts = c.args.threads.now in
    let i = c.loop-thread.thread-index in
    let x = c.thread-item.result in
    let before : length (filter (in_group x.group) (take i ts)) < 64 = subst (λ (t : Thread). length (filter (in_group t.group) (take i ts)) < 64) (sym c.thread-item.is) (room_before ts i x (omega (arith, c.loop-thread-test.true)) c.requires) in
    rw (c.loop-thread.invariant x.group) (small (filter (in_group x.group) (take i ts)) (omega (arith, before)))

pub loop-thread-preserved : goal.loop-thread-preserved
loop-thread-preserved c =
    let ts = c.args.threads.now in
    let i = c.loop-thread.thread-index in
    let x = c.thread-item.result in
    let more : take (i + 1) ts ≡ take i ts ++ x ∷ [] = take_more ts i x (omega (arith, c.loop-thread-test.true)) ∙ ap (λ (t : Thread). take i ts ++ t ∷ []) (sym c.thread-item.is) in
    λ g. c.in_ok-push.ensures.ok g
    ∙ (ap (λ (r : RosterView). if x.group == g then with_last x r else r) (c.loop-thread.invariant g) ∙ (sym (roster_added g (take i ts) x) ∙ ap (λ (us : List Thread). roster_of (filter (in_group g) us)) (sym more)))
