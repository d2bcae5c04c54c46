use Rattle.std.proofs.Common.{arith}
use Rattle.tr_threads.proofs.tracee_list.push_row.Goals as goal

pub insert-inserted-requires : goal.insert-inserted-requires
insert-inserted-requires c = omega (arith, c.count_up_to-end.ensures.bound, c.deref.ensures.len)
