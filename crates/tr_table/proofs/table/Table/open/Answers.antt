use Rattle.std.proofs.Common.{◌≡◌, ◌≤◌, ◌∙◌, ap, length, map}
use Rattle.std.proofs.lemmas.List.{length-map}
use Rattle.tr_starts.specs.Starts.{group_started}
use Rattle.tr_starts.proofs.GoodStarts.{good_names_fit}
use Rattle.tr_table.proofs.Started.{few_started, groups_once, roster_started}
use Rattle.tr_table.proofs.table.Table.open.Goals as goal

pub started_groups-requires : goal.started_groups-requires
started_groups-requires c = rw c.as_slice-2.ensures (good_names_fit c.args.start.now c.requires)

pub started_threads-requires-clause-once : goal.started_threads-requires-clause-once
started_threads-requires-clause-once c = rw c.as_slice.ensures (roster_started c.args.start.now c.requires).distinct

pub started_threads-requires-clause-few : goal.started_threads-requires-clause-few
started_threads-requires-clause-few c = rw c.as_slice.ensures (roster_started c.args.start.now c.requires).few

pub from_vec-requires-clause-once : goal.from_vec-requires-clause-once
from_vec-requires-clause-once c =
    let e : c.in_ok-started_groups.field-0.items ≡ map group_started c.args.start.now.groups = c.in_ok-started_groups.ensures ∙ ap (map group_started) c.as_slice-2.ensures in
    λ n. rw e (groups_once c.args.start.now c.requires n)

pub from_vec-requires-clause-few : goal.from_vec-requires-clause-few
from_vec-requires-clause-few c =
    let e : c.in_ok-started_groups.field-0.items ≡ map group_started c.args.start.now.groups = c.in_ok-started_groups.ensures ∙ ap (map group_started) c.as_slice-2.ensures in
    let k : length c.in_ok-started_groups.field-0.items ≡ length c.args.start.now.groups = ap length e ∙ length-map c.args.start.now.groups group_started in
    rw k (few_started c.args.start.now c.requires)

pub invariant_of-result : goal.invariant_of-result
invariant_of-result c =
    let e : c.in_ok-groups.groups ≡ map group_started c.args.start.now.groups = c.in_ok-groups.ensures ∙ (c.in_ok-started_groups.ensures ∙ ap (map group_started) c.as_slice-2.ensures) in
    let k : length c.in_ok-groups.groups ≡ length c.args.start.now.groups = ap length e ∙ length-map c.args.start.now.groups group_started in
    let few : length c.in_ok-groups.groups ≤ 1024 = rw k (few_started c.args.start.now c.requires) in
    rw c.in_ok-threads.ensures (record { roster = rw c.as_slice.ensures (roster_started c.args.start.now c.requires); few = few; ordered = record { kept = c.new.ensures.kept; numbered = rw c.new.ensures.waiting tt }; settled = tt })
