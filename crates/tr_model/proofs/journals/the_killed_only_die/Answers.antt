use Rattle.tr_model.proofs.Dying.{only_dying}
use Rattle.tr_model.proofs.journals.the_killed_only_die.Goals as goal

pub returns : goal.returns
returns c = only_dying
