use Rattle.std.proofs.Common.{◌≡◌, ◌++◌, drop}
use Rattle.tr_starts.specs.Starts.{ids_started}
use Rattle.tr_reading.proofs.reading.ids_of.Given as goal

abbrev pub invariant-loop-group : goal.invariant-loop-group
invariant-loop-group l = l.ids.items ++ ids_started (drop l.group-index l.groups) ≡ ids_started l.groups
