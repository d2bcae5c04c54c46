use Rattle.std.proofs.Common.{◌≡◌, ◌++◌, drop}
use Rattle.tr_starts.proofs.starts.Start.copy.Given as goal

abbrev pub invariant-loop-group : goal.invariant-loop-group
invariant-loop-group l = l.groups ++ drop l.group-index l.group-items ≡ l.group-items
