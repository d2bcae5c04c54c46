use Rattle.std.proofs.Common.{◌≡◌, ◌∙◌, List, Some, is_some, get_or, arith, ap, subst, sym}
use Rattle.tr_group.specs.GroupStops.{is_stopping}
use Rattle.tr_model.specs.declared.rows.Group.{Group}
use Rattle.tr_index.specs.Counts.{bool_to_nat}
use Rattle.tr_table.specs.Private.{IsGroupPlace}
use Rattle.tr_threads.proofs.Counting.{one_counted}
use Rattle.tr_table.proofs.GroupLists.{countable, written}
use Rattle.tr_table.proofs.group_list.Groups.note.Goals as goal

pub recounted-self-inside-requires-clause-was : goal.recounted-self-inside-requires-clause-was
recounted-self-inside-requires-clause-was c =
    let xs = c.self.inside.list.items in
    let x = c.index_mut-group.result.now in
    let here : IsGroupPlace c.args.tgid xs (Some c.in-Some.place) = subst (λ (ys : List Group). IsGroupPlace c.args.tgid ys (Some c.in-Some.place)) (sym c.self.view_is) c.in-Some.ensures.place in
    let had : bool_to_nat c.is_some-had.result ≡ bool_to_nat (is_some (get_or xs c.in-Some.place x).note) = ap bool_to_nat (c.is_some-had.ensures ∙ ap (λ (y : Group). is_some y.note) c.index_mut-group.ensures.value) in
    omega (arith, had, one_counted (λ (y : Group). is_some y.note) xs c.in-Some.place x here.0, c.self.invariant.noted)

pub recounted-self-inside-requires-clause-few : goal.recounted-self-inside-requires-clause-few
recounted-self-inside-requires-clause-few c = countable (λ (y : Group). is_some y.note) c.self.inside.list.items c.self.inside.noted c.self.invariant.few c.self.invariant.noted

pub invariant_of-self : goal.invariant_of-self
invariant_of-self c =
    let xs = c.self.inside.list.items in
    let x = c.index_mut-group.result.now in
    let here : IsGroupPlace c.args.tgid xs (Some c.in-Some.place) = subst (λ (ys : List Group). IsGroupPlace c.args.tgid ys (Some c.in-Some.place)) (sym c.self.view_is) c.in-Some.ensures.place in
    let had : bool_to_nat c.is_some-had.result ≡ bool_to_nat (is_some (get_or xs c.in-Some.place x).note) = ap bool_to_nat (c.is_some-had.ensures ∙ ap (λ (y : Group). is_some y.note) c.index_mut-group.ensures.value) in
    written xs _ _ _ _ _ c.in-Some.place x _ c.self.invariant here.0 (ap (λ (y : Group). y.tgid) c.index_mut-group.ensures.value) (omega (arith, ap (λ (y : Group). bool_to_nat (is_stopping y.group_stop)) c.index_mut-group.ensures.value)) (omega (arith, had, c.recounted-self-inside.ensures))
