use Rattle.tr_mistakes.proofs.Told.{all_is_told}
use Rattle.tr_mistakes.proofs.texts.all_mistakes_are_told.Goals as goal

pub returns : goal.returns
returns c = all_is_told
