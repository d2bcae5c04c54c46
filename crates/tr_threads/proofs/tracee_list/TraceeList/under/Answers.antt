use Rattle.std.proofs.Common.{◌∙◌, List, ap, filter, subst, sym}
use Rattle.tr_threads.specs.declared.tracee_list.Listed.{Listed}
use Rattle.tr_threads.specs.TraceeLists.{Rises, is_under, is_under_if}
use Rattle.tr_threads.proofs.TraceeRows.{all_under, is_part, part_under}
use Rattle.tr_threads.proofs.tracee_list.TraceeList.under.Goals as goal

pub returns-then-is_under-2 : goal.returns-then-is_under-2
returns-then-is_under-2 c =
    let a = c.args.actor in
    let ls = c.as_slice-rows.result.now in
    let rises : Rises ls = subst Rises (sym c.as_slice-rows.ensures.value) c.requires in
    all_under a ls rises
    (ap (is_under_if a) (sym c.first.ensures.value) ∙ (sym c.is_under.ensures ∙ c.if-is_under.true))
    (ap (is_under_if a) (sym c.last.ensures.value) ∙ (sym c.is_under-then-is_under.ensures ∙ c.if-is_under-2.true))
    ∙ ap (λ (ks : List Listed). filter (is_under a) ks) c.as_slice-rows.ensures.value

pub slice_bounds-result-count : goal.slice_bounds-result-count
slice_bounds-result-count c =
    let ls = c.as_slice-rows.result.now in
    let rises : Rises ls = subst Rises (sym c.as_slice-rows.ensures.value) c.requires in
    is_part c.args.actor ls c.count_below-start.result c.count_up_to-end.result c.count_below-start.ensures.count c.count_up_to-end.ensures.count rises

pub slice_bounds-result-start : goal.slice_bounds-result-start
slice_bounds-result-start c =
    let ls = c.as_slice-rows.result.now in
    let rises : Rises ls = subst Rises (sym c.as_slice-rows.ensures.value) c.requires in
    is_part c.args.actor ls c.count_below-start.result c.count_up_to-end.result c.count_below-start.ensures.count c.count_up_to-end.ensures.count rises

pub returns : goal.returns
returns c =
    let ls = c.as_slice-rows.result.now in
    let rises : Rises ls = subst Rises (sym c.as_slice-rows.ensures.value) c.requires in
    part_under c.args.actor ls c.count_below-start.result c.count_up_to-end.result c.count_below-start.ensures.count c.count_up_to-end.ensures.count rises ∙ ap (λ (ks : List Listed). filter (is_under c.args.actor) ks) c.as_slice-rows.ensures.value
