use Rattle.std.proofs.Common.{◌≡◌, take}
use Rattle.tr_table.specs.Private.{tgids_of}
use Rattle.tr_table.proofs.group_list.index_of.Given as goal

abbrev pub invariant-loop-group : goal.invariant-loop-group
invariant-loop-group l = l.index ≡ tgids_of (take l.group-index l.groups)
