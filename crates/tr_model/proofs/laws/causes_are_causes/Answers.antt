use Rattle.tr_model.proofs.Causing.{causes_are_causes}
use Rattle.tr_model.proofs.laws.causes_are_causes.Goals as goal

pub returns : goal.returns
returns c = causes_are_causes
