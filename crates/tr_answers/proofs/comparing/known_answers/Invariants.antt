use Rattle.std.proofs.Common.{◌≡◌, ◌+◌, drop}
use Rattle.tr_answers.proofs.Counts.{known_by}
use Rattle.tr_answers.proofs.comparing.known_answers.Given as goal

abbrev pub invariant-loop-answered : goal.invariant-loop-answered
invariant-loop-answered l = l.count + known_by (drop l.answered-index l.steps) ≡ known_by l.steps
