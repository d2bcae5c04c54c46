use Rattle.std.proofs.Common.{◌≡◌, length}
use Rattle.tr_answers.specs.Fits.{fits}
use Rattle.tr_answers.proofs.expected.fit_by_words.Given as goal

abbrev pub invariant-words : goal.invariant-words
invariant-words l = fits l.fn.expected l.fn.text ≡ fits l.expected l.text

abbrev pub decreases-words : goal.decreases-words
decreases-words l = length l.expected
