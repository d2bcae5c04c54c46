use Rattle.std.proofs.Common.{◌≡◌, ◌∙◌, ◌++◌, ◌∷◌, rules, sym, ap, subst, Some, refl, if◌then◌else◌}
use Rattle.tr_model.specs.Tables.{same_target}
use Rattle.tr_model.specs.contracts.rows.TargetPartialEq.TheImpl as target_test
use Rattle.indexmap.specs.IndexMap.{get}
use Rattle.tr_queues.specs.Lines.{IsQueue, StandsAt, queue_at}
use Rattle.tr_queues.proofs.Keys.{by_target}
use Rattle.tr_queues.proofs.lines.leave_queue.Goals as goal

pub returns-in-Some-clause-own : goal.returns-in-Some-clause-own
returns-in-Some-clause-own c = λ q before after e s h.
    let w = c.args.waiting.now in
    let found : queue_at c.args.queues.now w.target ≡ Some c.in-Some.queue = search rules in
    let narrow = Some c.narrower-left.result in
    let at : StandsAt target_test.ghosts.eq c.args.queues.now c.in-Some.place c.args.waiting.now.target = search rules in
    let wrote : queue_at c.rewrite.new.map q ≡ (if same_target w.target q then narrow else queue_at c.args.queues.now q) = search (rules, c.rewrite.ensures.get c.args.waiting.now.target q at) in
    let left : queue_at c.rewrite.new.map q ≡ narrow = wrote ∙ ap (λ b. if b then narrow else queue_at c.args.queues.now q) e in
    subst (λ x. IsQueue x (before ++ after)) (sym left) (c.narrower-left.ensures w.instance before after refl s (subst (λ x. IsQueue x (before ++ w.instance ∷ after)) found h))

pub returns-in-Some-clause-others : goal.returns-in-Some-clause-others
returns-in-Some-clause-others c = λ q e.
    let t = c.args.waiting.now.target in
    let narrow = Some c.narrower-left.result in
    let at : StandsAt target_test.ghosts.eq c.args.queues.now c.in-Some.place t = search rules in
    let wrote : get target_test.ghosts.eq c.rewrite.new.map q ≡ (if target_test.ghosts.eq t q then narrow else get target_test.ghosts.eq c.args.queues.now q) = c.rewrite.ensures.get t q at in
    subst (λ eq. get eq c.rewrite.new.map q ≡ (if eq t q then narrow else get eq c.args.queues.now q)) by_target wrote ∙ ap (λ b. if b then narrow else queue_at c.args.queues.now q) e
