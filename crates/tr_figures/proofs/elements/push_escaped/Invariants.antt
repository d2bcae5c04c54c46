use Rattle.std.proofs.Common.{◌≡◌, ◌++◌, drop}
use Rattle.tr_figures.specs.Elements.{escaped}
use Rattle.tr_figures.proofs.elements.push_escaped.Given as goal

abbrev pub invariant-loop-character : goal.invariant-loop-character
invariant-loop-character l = l.page ++ escaped (drop l.character-index l.text) ≡ l.fn.page ++ escaped l.text
