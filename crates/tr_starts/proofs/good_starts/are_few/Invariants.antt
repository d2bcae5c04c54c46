use Rattle.std.proofs.Common.{◌≡◌, drop, length, nat_le}
use Rattle.tr_starts.specs.Starts.{ids_started}
use Rattle.tr_starts.proofs.good_starts.are_few.Given as goal

abbrev pub invariant-loop-group : goal.invariant-loop-group
invariant-loop-group l = nat_le (length (ids_started (drop l.group-index l.groups))) l.room ≡ nat_le (length (ids_started l.groups)) 1024
