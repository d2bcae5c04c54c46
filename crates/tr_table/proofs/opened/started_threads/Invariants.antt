use Rattle.std.proofs.Common.{◌≡◌, ◌++◌, drop}
use Rattle.tr_starts.specs.Starts.{all_started}
use Rattle.tr_table.proofs.opened.started_threads.Given as goal

abbrev pub invariant-loop-group : goal.invariant-loop-group
invariant-loop-group l = l.list.items ++ all_started (drop l.group-index l.groups) ≡ all_started l.groups
