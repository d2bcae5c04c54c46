use Rattle.std.proofs.Common.{◌≡◌, map, take, drop, ◌++◌}
use Rattle.tr_group.specs.Actions.{reset}
use Rattle.tr_table.proofs.groups.reset.Given as goal

abbrev pub invariant-loop-action : goal.invariant-loop-action
invariant-loop-action l = l.actions ≡ map reset (take l.action-index l.fn.actions) ++ drop l.action-index l.fn.actions
