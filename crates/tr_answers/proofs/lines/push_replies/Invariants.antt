use Rattle.std.proofs.Common.{◌≡◌, ◌++◌, drop, Ok}
use Rattle.tr_answers.specs.Comparisons.{quoted}
use Rattle.tr_answers.proofs.Lists.{listed_after}
use Rattle.tr_answers.proofs.lines.push_replies.Given as goal

abbrev pub invariant-loop-reply : goal.invariant-loop-reply
invariant-loop-reply l = l.page ++ listed_after (drop l.reply-index l.others) ≡ l.fn.page ++ (quoted (Ok l.first) ++ listed_after l.others)
