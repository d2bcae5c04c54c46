use Rattle.tr_model.proofs.Foreseeing.{replies_are_foreseen}
use Rattle.tr_model.proofs.compare.replies_are_foreseen.Goals as goal

pub returns : goal.returns
returns c = replies_are_foreseen
