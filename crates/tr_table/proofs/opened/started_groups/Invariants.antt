use Rattle.std.proofs.Common.{◌≡◌, ◌++◌, drop, map}
use Rattle.std.specs.Prelude.{IsTrue}
use Rattle.std.specs.List.{list_all}
use Rattle.tr_starts.specs.Starts.{group_started, name_fits}
use Rattle.tr_table.proofs.opened.started_groups.Given as goal

abbrev pub invariant-loop-group : goal.invariant-loop-group
invariant-loop-group l = (IsTrue (list_all name_fits (drop l.group-index l.groups))) × (l.list.items ++ map group_started (drop l.group-index l.groups) ≡ map group_started l.groups)
