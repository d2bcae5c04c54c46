use Rattle.std.proofs.Common.{◌≡◌, drop}
use Rattle.tr_starts.specs.Ascending.{last_ascending}
use Rattle.tr_starts.specs.Starts.{ids_started}
use Rattle.tr_starts.proofs.good_starts.have_ascending_ids.Given as goal

abbrev pub invariant-loop-group : goal.invariant-loop-group
invariant-loop-group l = last_ascending l.last (ids_started (drop l.group-index l.groups)) ≡ last_ascending 0 (ids_started l.groups)
