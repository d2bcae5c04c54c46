use Rattle.std.proofs.Common.{◌≡◌, ◌∙◌, List, Some, is_some, get_or, arith, ap, subst, sym}
use Rattle.tr_group.specs.GroupStops.{is_stopping}
use Rattle.tr_model.specs.declared.rows.Group.{Group}
use Rattle.tr_index.specs.Counts.{bool_to_nat}
use Rattle.tr_table.specs.Private.{IsGroupPlace}
use Rattle.tr_model.specs.Moves.{group_changed}
use Rattle.tr_table.specs.Changes.{group_changed_by}
use Rattle.tr_threads.proofs.Counting.{one_counted}
use Rattle.tr_table.proofs.GroupLists.{countable, only_group_changed, same_tgid, written}
use Rattle.tr_table.proofs.group_list.Groups.change.Goals as goal

pub recounted-self-inside-requires-clause-was : goal.recounted-self-inside-requires-clause-was
recounted-self-inside-requires-clause-was c =
    let xs = c.self.inside.list.items in
    let x = c.index_mut-group.result.now in
    let here : IsGroupPlace c.args.tgid xs (Some c.in-Some.place) = subst (λ (ys : List Group). IsGroupPlace c.args.tgid ys (Some c.in-Some.place)) (sym c.self.view_is) c.in-Some.ensures.place in
    let was : bool_to_nat c.is_stopping-was.result ≡ bool_to_nat (is_stopping (get_or xs c.in-Some.place x).group_stop) = ap bool_to_nat (c.is_stopping-was.ensures ∙ ap (λ (y : Group). is_stopping y.group_stop) c.index_mut-group.ensures.value) in
    omega (arith, was, one_counted (λ (y : Group). is_stopping y.group_stop) xs c.in-Some.place x here.0, c.self.invariant.counted)

pub recounted-self-inside-requires-clause-few : goal.recounted-self-inside-requires-clause-few
recounted-self-inside-requires-clause-few c = countable (λ (y : Group). is_stopping y.group_stop) c.self.inside.list.items c.self.inside.stopping c.self.invariant.few c.self.invariant.counted

pub recounted-self-inside-requires-in-Some-clause-was : goal.recounted-self-inside-requires-in-Some-clause-was
recounted-self-inside-requires-in-Some-clause-was c =
    let xs = c.self.inside.list.items in
    let x = c.index_mut-group.result.now in
    let here : IsGroupPlace c.args.tgid xs (Some c.in-Some.place) = subst (λ (ys : List Group). IsGroupPlace c.args.tgid ys (Some c.in-Some.place)) (sym c.self.view_is) c.in-Some.ensures.place in
    let had : bool_to_nat c.is_some-had.result ≡ bool_to_nat (is_some (get_or xs c.in-Some.place x).note) = ap bool_to_nat (c.is_some-had.ensures ∙ ap (λ (y : Group). is_some y.note) c.index_mut-group.ensures.value) in
    omega (arith, had, one_counted (λ (y : Group). is_some y.note) xs c.in-Some.place x here.0, c.self.invariant.noted)

pub recounted-self-inside-requires-in-Some-clause-few : goal.recounted-self-inside-requires-in-Some-clause-few
recounted-self-inside-requires-in-Some-clause-few c = countable (λ (y : Group). is_some y.note) c.self.inside.list.items c.self.inside.noted c.self.invariant.few c.self.invariant.noted

pub invariant_of-self : goal.invariant_of-self
invariant_of-self c =
    let xs = c.self.inside.list.items in
    let x = c.index_mut-group.result.now in
    let here : IsGroupPlace c.args.tgid xs (Some c.in-Some.place) = subst (λ (ys : List Group). IsGroupPlace c.args.tgid ys (Some c.in-Some.place)) (sym c.self.view_is) c.in-Some.ensures.place in
    let was : bool_to_nat c.is_stopping-was.result ≡ bool_to_nat (is_stopping (get_or xs c.in-Some.place x).group_stop) = ap bool_to_nat (c.is_stopping-was.ensures ∙ ap (λ (y : Group). is_stopping y.group_stop) c.index_mut-group.ensures.value) in
    let had : bool_to_nat c.is_some-had.result ≡ bool_to_nat (is_some (get_or xs c.in-Some.place x).note) = ap bool_to_nat (c.is_some-had.ensures ∙ ap (λ (y : Group). is_some y.note) c.index_mut-group.ensures.value) in
    let is : bool_to_nat c.is_stopping-is.result ≡ bool_to_nat (is_stopping c.make.new.group.group_stop) = ap bool_to_nat c.is_stopping-is.ensures in
    let has : bool_to_nat c.is_some-has.result ≡ bool_to_nat (is_some c.make.new.group.note) = ap bool_to_nat c.is_some-has.ensures in
    let same : c.make.new.group.tgid ≡ (get_or xs c.in-Some.place x).tgid = ap (λ (y : Group). y.tgid) c.make.ensures ∙ (same_tgid c.args.change.now x ∙ ap (λ (y : Group). y.tgid) c.index_mut-group.ensures.value) in
    written xs _ _ _ _ _ c.in-Some.place x c.make.new.group c.self.invariant here.0 same (omega (arith, was, is, c.recounted-self-inside.ensures)) (omega (arith, had, has, c.recounted-self-inside-in-Some.ensures))

pub returns-in-Some : goal.returns-in-Some
returns-in-Some c =
    let f = group_changed_by c.args.change.now in
    let xs = c.self.inside.list.items in
    let x = c.index_mut-group.result.now in
    let here : IsGroupPlace c.args.tgid xs (Some c.in-Some.place) = subst (λ (ys : List Group). IsGroupPlace c.args.tgid ys (Some c.in-Some.place)) (sym c.self.view_is) c.in-Some.ensures.place in
    here.1 f x c.make.new.group (c.make.ensures ∙ ap f c.index_mut-group.ensures.value)
    ∙ (ap (group_changed c.args.tgid f) c.self.view_is ∙ sym (only_group_changed c.args.tgid f c.args.self.now (c.place.ensures.once c.args.tgid)))

pub returns-in_default : goal.returns-in_default
returns-in_default c = let f = group_changed_by c.args.change.now in sym (c.in_default.ensures.place.0 f) ∙ sym (only_group_changed c.args.tgid f c.args.self.now (c.place.ensures.once c.args.tgid))
