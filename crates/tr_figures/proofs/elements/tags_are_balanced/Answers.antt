use Rattle.tr_figures.proofs.Printed.{are_balanced}
use Rattle.tr_figures.proofs.elements.tags_are_balanced.Goals as goal

pub returns : goal.returns
returns c = are_balanced
