use Rattle.std.proofs.Common.{ap, ◌∙◌, not}
use Rattle.tr_sigset.specs.Sets.{in_word}
use Rattle.tr_lanes.proofs.Members.{row_test, row_has}
use Rattle.tr_lanes.proofs.rows.bit_of.Goals as goal

pub returns-clause-lacking : goal.returns-clause-lacking
returns-clause-lacking c row = row_test row c.number.result c.number.ensures.range.0 c.number.ensures.range.1 ∙ ap (λ s. not (in_word row s)) c.number.ensures.value

pub returns-clause-holding : goal.returns-clause-holding
returns-clause-holding c row = row_has row c.number.result c.number.ensures.range.0 c.number.ensures.range.1 ∙ ap (in_word row) c.number.ensures.value
