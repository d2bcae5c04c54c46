use Rattle.tr_model.proofs.Between.{restart_stands}
use Rattle.tr_model.proofs.journals.a_restart_stands_between.Goals as goal

pub returns : goal.returns
returns c = restart_stands
