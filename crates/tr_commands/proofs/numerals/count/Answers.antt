use Rattle.std.proofs.Common.{◌∙◌, sym}
use Rattle.tr_commands.proofs.Digits.{count_read, count_unread}
use Rattle.tr_commands.proofs.numerals.count.Goals as goal

pub returns-in_err-count-clause-value : goal.returns-in_err-count-clause-value
returns-in_err-count-clause-value c =
    c.from_residual.ensures ∙ sym (count_unread c.args.text.now c.parse.result (sym c.ok.ensures.value ∙ c.in_err-count.was) c.parse.ensures.value.0)

pub returns-then-count-le-MOST-clause-value : goal.returns-then-count-le-MOST-clause-value
returns-then-count-le-MOST-clause-value c =
    sym (count_read c.args.text.now c.in_ok-count.count c.parse.result (sym c.ok.ensures.value ∙ c.in_ok-count.was) c.parse.ensures.value.0 c.if-count-ge1.true c.if-count-le-MOST.true)
