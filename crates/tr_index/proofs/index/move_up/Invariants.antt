use Rattle.tr_index.specs.Pages.{IsMoved}
use Rattle.tr_index.proofs.index.move_up.Given as goal

abbrev pub invariant-loop-at : goal.invariant-loop-at
invariant-loop-at l = IsMoved l.at l.ids l.pages
