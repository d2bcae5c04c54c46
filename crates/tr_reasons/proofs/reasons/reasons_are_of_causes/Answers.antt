use Rattle.tr_reasons.proofs.OfCauses.{of_causes}
use Rattle.tr_reasons.proofs.reasons.reasons_are_of_causes.Goals as goal

pub returns : goal.returns
returns c = of_causes
