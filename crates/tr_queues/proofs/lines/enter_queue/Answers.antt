use Rattle.std.proofs.Common.{◌≡◌, ◌∙◌, ◌++◌, ◌∷◌, [], Some, false, if◌then◌else◌, ap, arith, rules, subst, sym}
use Rattle.indexmap.specs.IndexMap.{get}
use Rattle.tr_model.specs.contracts.rows.TargetPartialEq.TheImpl as target_test
use Rattle.tr_queues.specs.declared.lines.Queue.{Queue}
use Rattle.tr_queues.specs.Lines.{IsQueue, StandsAt, queue_at}
use Rattle.tr_queues.proofs.Keys.{by_target}
use Rattle.tr_queues.proofs.lines.enter_queue.Goals as goal

pub wider-requires : goal.wider-requires
wider-requires c =
    let found : queue_at c.args.queues.now c.args.waiting.now.target ≡ Some c.in-Some.queue = search rules in
    let few = c.requires.few c.in-Some.queue found in
    omega (arith, few)

pub returns-in-Some-clause-own : goal.returns-in-Some-clause-own
returns-in-Some-clause-own c = λ q is e h.
    let t = c.args.waiting.now.target in
    let i = c.args.waiting.now.instance in
    let queue : Queue = c.wider.result in
    let at : StandsAt target_test.ghosts.eq c.args.queues.now c.in-Some.place t = search rules in
    let found : queue_at c.args.queues.now t ≡ Some c.in-Some.queue = search rules in
    let wrote : get target_test.ghosts.eq c.rewrite.new.map q ≡ (if target_test.ghosts.eq t q then Some queue else get target_test.ghosts.eq c.args.queues.now q) = c.rewrite.ensures.get t q at in
    let here : queue_at c.rewrite.new.map q ≡ Some queue = subst (λ eq. get eq c.rewrite.new.map q ≡ (if eq t q then Some queue else get eq c.args.queues.now q)) by_target wrote ∙ ap (λ b. if b then Some queue else queue_at c.args.queues.now q) e in
    subst (λ x. IsQueue x (is ++ i ∷ [])) (sym here) (c.wider.ensures is (subst (λ x. IsQueue x is) found h))

pub returns-in-Some-clause-others : goal.returns-in-Some-clause-others
returns-in-Some-clause-others c = λ q e.
    let t = c.args.waiting.now.target in
    let queue : Queue = c.wider.result in
    let at : StandsAt target_test.ghosts.eq c.args.queues.now c.in-Some.place t = search rules in
    let wrote : get target_test.ghosts.eq c.rewrite.new.map q ≡ (if target_test.ghosts.eq t q then Some queue else get target_test.ghosts.eq c.args.queues.now q) = c.rewrite.ensures.get t q at in
    subst (λ eq. get eq c.rewrite.new.map q ≡ (if eq t q then Some queue else get eq c.args.queues.now q)) by_target wrote ∙ ap (λ b. if b then Some queue else queue_at c.args.queues.now q) e

pub returns-in-None-clause-others : goal.returns-in-None-clause-others
returns-in-None-clause-others c = λ q e.
    let off : target_test.ghosts.eq c.args.waiting.now.target q ≡ false = subst (λ eq. eq c.args.waiting.now.target q ≡ false) (sym by_target) e in
    let wrote : get target_test.ghosts.eq c.insert.new.self q ≡ get target_test.ghosts.eq c.args.queues.now q = search (rules, off) in
    subst (λ eq. get eq c.insert.new.self q ≡ get eq c.args.queues.now q) by_target wrote
