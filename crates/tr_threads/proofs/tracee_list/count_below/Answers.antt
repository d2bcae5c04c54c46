use Rattle.std.proofs.Common.{nat_lt, rules}
use Rattle.std.proofs.lemmas.List.Sorted.{IsPartitionPoint-from_clause, IsPartitionedBy-ltb}
use Rattle.tr_threads.specs.declared.tracee_list.Listed.{Listed}
use Rattle.tr_threads.proofs.Parted.{found_count}
use Rattle.tr_threads.proofs.tracee_list.count_below.Goals as goal

pub returns-clause-count : goal.returns-clause-count
returns-clause-count c =
    let ls = c.args.rows.now in
    let n = c.partition_point.result in
    let parted = IsPartitionedBy-ltb (λ (l : Listed). l.tracer) ls c.args.actor c.requires in
    let point = IsPartitionPoint-from_clause (λ (l : Listed). nat_lt l.tracer c.args.actor) ls n c.partition_point.ensures.partitioned parted (λ a r q k. search rules) in
    found_count (λ l. nat_lt l.tracer c.args.actor) ls n c.partition_point.ensures.bound point
