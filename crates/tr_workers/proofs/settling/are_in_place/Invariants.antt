use Rattle.std.proofs.Common.{◌↔◌, length}
use Rattle.tr_workers.specs.Private.{AreInPlace}
use Rattle.tr_workers.proofs.InPlace.{AddUp}
use Rattle.tr_workers.proofs.settling.are_in_place.Given as goal

abbrev pub invariant-loop-left : goal.invariant-loop-left
invariant-loop-left l = AddUp l.kernel l.left l.missing ↔ AreInPlace l.kernel l.workers

abbrev pub decreases-loop-left : goal.decreases-loop-left
decreases-loop-left l = length l.left
