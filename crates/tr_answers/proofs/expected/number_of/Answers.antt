use Rattle.std.proofs.Common.{sym, ◌∙◌}
use Rattle.tr_answers.proofs.Numerals.{other_text, unread}
use Rattle.tr_answers.proofs.expected.number_of.Goals as goal

pub returns-in_err-number : goal.returns-in_err-number
returns-in_err-number c = rw c.from_residual.ensures (unread c.args.digits.now c.parse.result c.parse.ensures.value.0 (sym c.ok.ensures.value ∙ c.in_err-number.was))

pub returns-else-eq : goal.returns-else-eq
returns-else-eq c = other_text c.args.digits.now c.format.result.now c.parse.result c.in_ok-number.number c.parse.ensures.value.0 c.in_ok-number.ensures.value c.format.ensures.text (sym c.eq.ensures ∙ c.if-eq.false)
