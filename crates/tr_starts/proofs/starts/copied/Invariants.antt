use Rattle.std.proofs.Common.{◌≡◌, ◌++◌, drop}
use Rattle.tr_starts.proofs.starts.copied.Given as goal

abbrev pub invariant-loop-item : goal.invariant-loop-item
invariant-loop-item g l = l.copies ++ drop l.item-index l.item-items ≡ l.item-items
