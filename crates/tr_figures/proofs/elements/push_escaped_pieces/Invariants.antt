use Rattle.std.proofs.Common.{◌≡◌, ◌++◌, drop, map}
use Rattle.tr_status.specs.Texts.{texts}
use Rattle.tr_figures.specs.Elements.{escaped}
use Rattle.tr_figures.proofs.elements.push_escaped_pieces.Given as goal

abbrev pub invariant-loop-piece : goal.invariant-loop-piece
invariant-loop-piece l = l.page ++ texts (map escaped (map (λ p. p.now) (drop l.piece-index l.pieces))) ≡ l.fn.page ++ texts (map escaped (map (λ p. p.now) l.pieces))
