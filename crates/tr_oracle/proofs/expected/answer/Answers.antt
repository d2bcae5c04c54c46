use Rattle.std.proofs.Common.{true≢false, sym, ◌∙◌}
use Rattle.tr_oracle.proofs.Expecting.{stepped_as}
use Rattle.tr_oracle.proofs.expected.answer.Goals as goal

pub returns-clause-ok : goal.returns-clause-ok
returns-clause-ok c =
    stepped_as c.args.kernel.now c.step-answer.new.self c.args.actor c.args.event.now c.step-answer.result c.step-answer.ensures.ok c.step-answer.ensures.err c.step-answer.ensures.unchanged c.step-answer.ensures.full
    (λ h. true≢false (sym (c.lacks_memory.ensures.1 h) ∙ c.if-lacks_memory.false))
