use Rattle.std.proofs.Common.{rules}
use Rattle.std.proofs.lemmas.List.Sorted.{IsPartitionPoint-from_clause}
use Rattle.tr_threads.specs.TraceeLists.{stands_before}
use Rattle.tr_threads.proofs.Parted.{found_count}
use Rattle.tr_threads.proofs.tracee_list.rank.Goals as goal

pub returns : goal.returns
returns c =
    let f = stands_before c.args.index.now c.args.tracer c.args.place in
    let rows = c.args.rows.now in
    let point = IsPartitionPoint-from_clause f rows c.partition_point.result c.partition_point.ensures.partitioned c.requires (λ a r q k. search rules) in
    found_count f rows c.partition_point.result c.partition_point.ensures.bound point
