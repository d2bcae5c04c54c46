use Rattle.std.proofs.Common.{◌≡◌, take}
use Rattle.tr_threads.proofs.roster_list.Rosters.copy_ids.Given as goal

abbrev pub invariant-loop-id : goal.invariant-loop-id
invariant-loop-id l = l.ids.items ≡ take l.id-index l.id-items
