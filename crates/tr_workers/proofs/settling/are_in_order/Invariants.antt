use Rattle.std.proofs.Common.{◌↔◌, length}
use Rattle.tr_workers.specs.Private.{AreInOrder}
use Rattle.tr_workers.proofs.settling.are_in_order.Given as goal

abbrev pub invariant-loop-left : goal.invariant-loop-left
invariant-loop-left l = AreInOrder l.kernel l.actor l.before l.left ↔ AreInOrder l.kernel l.actor 0 l.list

abbrev pub decreases-loop-left : goal.decreases-loop-left
decreases-loop-left l = length l.left
