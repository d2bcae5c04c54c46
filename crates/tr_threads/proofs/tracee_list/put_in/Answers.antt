use Rattle.std.proofs.Common.{List, ap, arith, length}
use Rattle.tr_model.proofs.Costs.{filter-le-length}
use Rattle.tr_threads.specs.declared.tracee_list.Listed.{Listed}
use Rattle.tr_threads.specs.TraceeLists.{stands_before}
use Rattle.tr_threads.proofs.tracee_list.put_in.Goals as goal

pub insert-inserted-requires : goal.insert-inserted-requires
insert-inserted-requires c =
    let ls = c.args.rows.now.items in
    omega (arith, c.rank-rank.ensures, c.deref-else-all_stand_before.ensures.len, ap (λ (ks : List Listed). length ks) c.deref-else-all_stand_before.ensures.value, filter-le-length (stands_before c.args.index.now c.args.row.tracer c.args.place) c.deref-else-all_stand_before.result.now)
