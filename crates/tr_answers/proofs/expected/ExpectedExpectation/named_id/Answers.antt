use Rattle.tr_answers.proofs.Naming.{names_none, names_second}
use Rattle.tr_answers.proofs.expected.ExpectedExpectation.named_id.Goals as goal

pub returns-in_err-digits : goal.returns-in_err-digits
returns-in_err-digits c = rw c.from_residual.ensures (names_none c.args.self.now c.as_str.result.now c.split_once.result c.as_str.ensures c.split_once.ensures.cases c.in_err-digits.was)

pub returns : goal.returns
returns c = names_second c.args.self.now c.as_str.result.now c.split_once.result _ c.number_of.result c.as_str.ensures c.split_once.ensures.cases c.in_ok-digits.was c.number_of.ensures
