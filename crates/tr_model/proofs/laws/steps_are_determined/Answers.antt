use Rattle.tr_model.proofs.Causing.{steps_are_determined}
use Rattle.tr_model.proofs.laws.steps_are_determined.Goals as goal

pub returns : goal.returns
returns c = steps_are_determined
