use Rattle.std.proofs.Common.{◌≡◌, ◌++◌, ◌+◌, ◌≤◌, ◌-◌, replicate, vec_len, vec_capacity}
use Rattle.tr_model.specs.declared.fates.Fate.TheVariants.{Pending}
use Rattle.tr_kernel.proofs.fates.append_each_pending.Given as goal

abbrev pub invariant-loop : goal.invariant-loop
invariant-loop l =
    (l.list.items ≡ l.fn.list.items ++ replicate l.counter Pending) × (vec_len l.list + (l.more - l.counter) ≤ vec_capacity l.list) × (vec_capacity l.list ≡ vec_capacity l.fn.list)
