use Rattle.tr_model.proofs.Order.{in_order}
use Rattle.tr_model.proofs.journals.first_accepted_first_taken.Goals as goal

pub returns : goal.returns
returns c = in_order
