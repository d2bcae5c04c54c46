use Rattle.tr_model.proofs.Admitted.{preferred_is_admitted}
use Rattle.tr_model.proofs.laws.preferred_is_admitted.Goals as goal

pub returns : goal.returns
returns c = preferred_is_admitted
