use Rattle.std.proofs.Common.{◌≡◌, ◌==◌, ◌∙◌, ◌++◌, ◌∷◌, [], ℕ, List, sym, take, get_or, arith, ap}
use Rattle.std.specs.List.{list_any}
use Rattle.tr_tracee.specs.declared.thread.Thread.{Thread}
use Rattle.tr_model.specs.Tables.{ids_of}
use Rattle.tr_threads.proofs.ThreadLists.{ids_more, new_id_at}
use Rattle.tr_threads.proofs.threads.index_of.Goals as goal

pub push-requires : goal.push-requires
push-requires c =
    let ts = c.args.threads.now in
    let i = c.loop-thread.thread-index in
    let x = c.thread-item.result in
    let k : x.id ≡ (get_or ts i x).id = ap (λ (t : Thread). t.id) c.thread-item.is in
    rw c.loop-thread.invariant (ap (λ (m : ℕ). list_any (λ (n : ℕ). n == m) (ids_of (take i ts))) k ∙ new_id_at ts i x (omega (arith, c.loop-thread-test.true)) c.requires)

pub loop-thread-preserved : goal.loop-thread-preserved
loop-thread-preserved c =
    let ts = c.args.threads.now in
    let i = c.loop-thread.thread-index in
    let x = c.thread-item.result in
    let k : x.id ≡ (get_or ts i x).id = ap (λ (t : Thread). t.id) c.thread-item.is in
    c.in_ok-push.ensures.ok ∙ (ap (λ (ns : List ℕ). ns ++ x.id ∷ []) c.loop-thread.invariant ∙ (ap (λ (m : ℕ). ids_of (take i ts) ++ m ∷ []) k ∙ sym (ids_more ts i x (omega (arith, c.loop-thread-test.true)))))
