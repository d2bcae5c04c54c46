use Rattle.std.proofs.Common.{◌≡◌, ◌++◌, ◌+◌, ◌≤◌, ◌-◌, length, take, vec_len, vec_capacity}
use Rattle.tr_kernel.proofs.notes.append_all.Given as goal

abbrev pub invariant-loop-item : goal.invariant-loop-item
invariant-loop-item l = (l.list.items ≡ l.fn.list.items ++ take l.item-index l.more) × (vec_len l.list + (length l.more - l.item-index) ≤ vec_capacity l.list)
