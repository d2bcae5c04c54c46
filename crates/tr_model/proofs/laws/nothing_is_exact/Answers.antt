use Rattle.tr_model.proofs.Admitted.{nothing_is_exact}
use Rattle.tr_model.proofs.laws.nothing_is_exact.Goals as goal

pub returns : goal.returns
returns c = nothing_is_exact
