use Rattle.std.proofs.Common.{◌∙◌, List, ap, arith, le-ltb, subst, sym}
use Rattle.std.specs.List.{list_any}
use Rattle.tr_threads.specs.declared.tracee_list.Listed.{Listed}
use Rattle.tr_threads.specs.TraceeLists.{Rises, is_under}
use Rattle.tr_threads.proofs.TraceeRows.{none_there, one_there}
use Rattle.tr_threads.proofs.tracee_list.TraceeList.contains.Goals as goal

pub returns-then-start-rows : goal.returns-then-start-rows
returns-then-start-rows c =
    let ls = c.as_slice-rows.result.now in
    let rises : Rises ls = subst Rises (sym c.as_slice-rows.ensures.value) c.requires in
    one_there c.args.actor ls c.count_below-start.result (record { tracer = 0; id = 0 }) c.count_below-start.ensures.count rises (omega (arith, c.if-start-rows.true))
    ∙ ap (λ (ks : List Listed). list_any (is_under c.args.actor) ks) c.as_slice-rows.ensures.value

pub returns-else-start-rows : goal.returns-else-start-rows
returns-else-start-rows c =
    let ls = c.as_slice-rows.result.now in
    let rises : Rises ls = subst Rises (sym c.as_slice-rows.ensures.value) c.requires in
    le-ltb _ _ (omega (arith, c.if-start-rows.false))
    ∙ (none_there c.args.actor ls c.count_below-start.result c.count_below-start.ensures.count rises (omega (arith, c.if-start-rows.false)) ∙ ap (λ (ks : List Listed). list_any (is_under c.args.actor) ks) c.as_slice-rows.ensures.value)
