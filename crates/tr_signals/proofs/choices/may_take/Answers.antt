use Rattle.std.proofs.Common.{◌∙◌, sym}
use Rattle.tr_signals.proofs.Chosen.{takes_from_own, takes_from_shared}
use Rattle.tr_signals.proofs.choices.may_take.Goals as goal

pub returns-then-may_take : goal.returns-then-may_take
returns-then-may_take c =
    c.if-may_take.true ∙ takes_from_own c.args.table.now.table c.args.thread.now c.args.n (sym c.is_ready_to_take.ensures ∙ c.if-is_ready_to_take.true) (sym c.may_take.ensures ∙ c.if-may_take.true)

pub returns-else-may_take : goal.returns-else-may_take
returns-else-may_take c =
    c.may_take-else-may_take.ensures
    ∙ takes_from_shared c.args.table.now.table c.args.thread.now c.args.n (sym c.is_ready_to_take.ensures ∙ c.if-is_ready_to_take.true) (sym c.may_take.ensures ∙ c.if-may_take.false)
