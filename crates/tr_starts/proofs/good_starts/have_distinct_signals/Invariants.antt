use Rattle.std.proofs.Common.{◌≡◌, length, map}
use Rattle.tr_starts.specs.Starts.{no_repeat}
use Rattle.tr_starts.proofs.good_starts.have_distinct_signals.Given as goal

abbrev pub invariant-loop-rest : goal.invariant-loop-rest
invariant-loop-rest l = no_repeat (map (λ a. a.0) l.rest) ≡ no_repeat (map (λ a. a.0) l.fn.actions)

abbrev pub decreases-loop-rest : goal.decreases-loop-rest
decreases-loop-rest l = length l.rest
