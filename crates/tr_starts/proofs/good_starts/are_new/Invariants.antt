use Rattle.std.proofs.Common.{◌≡◌, ◌++◌, length, map}
use Rattle.tr_starts.specs.Starts.{ids_started, no_repeat}
use Rattle.tr_starts.proofs.good_starts.are_new.Given as goal

abbrev pub invariant-loop-rest : goal.invariant-loop-rest
invariant-loop-rest l = no_repeat (map (λ t. t.0) l.rest ++ ids_started l.groups) ≡ no_repeat (map (λ t. t.0) l.fn.threads ++ ids_started l.groups)

abbrev pub decreases-loop-rest : goal.decreases-loop-rest
decreases-loop-rest l = length l.rest
