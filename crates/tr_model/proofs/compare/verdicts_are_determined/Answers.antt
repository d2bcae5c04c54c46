use Rattle.tr_model.proofs.Compared.{verdicts_are_determined}
use Rattle.tr_model.proofs.compare.verdicts_are_determined.Goals as goal

pub returns : goal.returns
returns c = verdicts_are_determined
