use Rattle.std.proofs.Common.{◌≡◌, length}
use Rattle.tr_starts.specs.Starts.{ids_started, no_repeat}
use Rattle.tr_starts.proofs.good_starts.have_distinct_ids.Given as goal

abbrev pub invariant-loop-rest : goal.invariant-loop-rest
invariant-loop-rest l = no_repeat (ids_started l.rest) ≡ no_repeat (ids_started l.fn.groups)

abbrev pub decreases-loop-rest : goal.decreases-loop-rest
decreases-loop-rest l = length l.rest
