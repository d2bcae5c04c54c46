use Rattle.std.proofs.Common.{◌≡◌, ◌+◌, ◌++◌, ◌∷◌, [], ◌∙◌, List, length, length-take, take, arith, ap, subst, sym}
use Rattle.std.proofs.lemmas.List.{take_more}
use Rattle.tr_tracee.specs.declared.thread.Thread.{Thread}
use Rattle.tr_threads.specs.Tracing.{IsTracing}
use Rattle.tr_threads.proofs.Tracings.{has_place}
use Rattle.tr_threads.proofs.threads.tracing_of.Goals as goal

pub loop-thread-init : goal.loop-thread-init
loop-thread-init c = (c.in_ok-grow.ensures.kept [] c.new-tracing.ensures, c.in_ok-grow.ensures.ok)

pub add-requires : goal.add-requires
add-requires c =
    let ts = c.args.threads.now in
    let i = c.loop-thread.thread-index in
    has_place (take i ts) c.loop-thread.tracing (length ts) c.loop-thread.invariant.0 c.loop-thread.invariant.1 (omega (arith, length-take i ts, c.loop-thread-test.true))

pub loop-thread-preserved : goal.loop-thread-preserved
loop-thread-preserved c =
    let ts = c.args.threads.now in
    let i = c.loop-thread.thread-index in
    let x = c.thread-item.result in
    let more : take (i + 1) ts ≡ take i ts ++ x ∷ [] = take_more ts i x (omega (arith, c.loop-thread-test.true)) ∙ ap (λ (t : Thread). take i ts ++ t ∷ []) (sym c.thread-item.is) in
    (subst (λ (us : List Thread). IsTracing us c.add.new.self) (sym more) (c.add.ensures.kept (take i ts) c.loop-thread.invariant.0), c.add.ensures.places (length ts) c.loop-thread.invariant.1)
