use Rattle.std.proofs.Common.{map}
use Rattle.tr_figures.proofs.Printed.{pushed_words}
use Rattle.tr_figures.proofs.elements.push_words.Goals as goal

pub returns : goal.returns
returns c = pushed_words _ _ _ _ c.args.style c.args.x c.args.y (map (λ p. p.now) c.args.pieces.now) c.in_ok-push_words_begin.ensures c.in_ok-push_escaped_pieces.ensures c.in_ok-push.ensures.ok
