use Rattle.std.proofs.Common.{◌≡◌, length, take}
use Rattle.tr_model.proofs.same_rows.same_list.Given as goal

abbrev pub invariant-loop-at : goal.invariant-loop-at
invariant-loop-at g l = (length l.list ≡ length l.other) × (take l.at l.list ≡ take l.at l.other)
