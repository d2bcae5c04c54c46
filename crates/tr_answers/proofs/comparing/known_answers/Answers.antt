use Rattle.std.proofs.Common.{◌∙◌, arith, drop_of_length-le, sym}
use Rattle.tr_answers.proofs.Counts.{known_few, known_is, known_next}
use Rattle.tr_answers.proofs.comparing.known_answers.Goals as goal

pub overflow_add-count : goal.overflow_add-count
overflow_add-count c =
    let next = rw (sym c.is_some.ensures ∙ c.if-is_some.true) at (known_next c.args.steps.now c.loop-answered.answered-index c.answered-item.result c.answered-item.is c.loop-answered-test.true) in
    omega (arith, next, c.loop-answered.invariant, known_few c.args.steps.now, c.requires)

pub returns : goal.returns
returns c =
    let i = rw (drop_of_length-le c.args.steps.now c.loop-answered-test.false) at c.loop-answered.invariant in
    omega (arith, i, known_is 1 c.args.steps.now)
