use Rattle.std.proofs.Common.{◌≡◌, ◌==◌, ◌||◌, filter, is_some, not, remove, Bool, ◌∙◌, List, Some, get_or, arith, ap, subst, sym}
use Rattle.tr_group.specs.GroupStops.{is_stopping}
use Rattle.tr_model.specs.declared.rows.Group.{Group}
use Rattle.tr_index.specs.Counts.{bool_to_nat}
use Rattle.tr_table.specs.Private.{IsGroupPlace}
use Rattle.tr_threads.proofs.Counting.{one_counted}
use Rattle.tr_table.proofs.GroupLists.{all_kept, countable, gone, none_kept_out, one_goes}
use Rattle.tr_table.proofs.group_list.Groups.drop_empty.Goals as goal

pub returns-then-has_member-clause-kept : goal.returns-then-has_member-clause-kept
returns-then-has_member-clause-kept c = sym (ap (λ (b : Bool). filter (λ (x : Group). not (x.tgid == c.args.tgid) || b) c.args.self.now) (sym c.has_member.ensures ∙ c.if-has_member.true) ∙ all_kept c.args.tgid c.args.self.now)

pub recounted-self-inside-requires-clause-was : goal.recounted-self-inside-requires-clause-was
recounted-self-inside-requires-clause-was c =
    let xs = c.self.inside.list.items in
    let x = c.remove-gone.result in
    let here : IsGroupPlace c.args.tgid xs (Some c.in_ok-place.place) = subst (λ (ys : List Group). IsGroupPlace c.args.tgid ys (Some c.in_ok-place.place)) (sym c.self.view_is) c.in_ok-place.ensures.place in
    let was : bool_to_nat c.is_stopping.result ≡ bool_to_nat (is_stopping (get_or xs c.in_ok-place.place x).group_stop) = ap bool_to_nat (c.is_stopping.ensures ∙ ap (λ (y : Group). is_stopping y.group_stop) c.remove-gone.ensures.value) in
    omega (arith, was, one_counted (λ (y : Group). is_stopping y.group_stop) xs c.in_ok-place.place x here.0, c.self.invariant.counted)

pub recounted-self-inside-requires-clause-few : goal.recounted-self-inside-requires-clause-few
recounted-self-inside-requires-clause-few c = countable (λ (y : Group). is_stopping y.group_stop) c.self.inside.list.items c.self.inside.stopping c.self.invariant.few c.self.invariant.counted

pub recounted-self-inside-requires-2-clause-was : goal.recounted-self-inside-requires-2-clause-was
recounted-self-inside-requires-2-clause-was c =
    let xs = c.self.inside.list.items in
    let x = c.remove-gone.result in
    let here : IsGroupPlace c.args.tgid xs (Some c.in_ok-place.place) = subst (λ (ys : List Group). IsGroupPlace c.args.tgid ys (Some c.in_ok-place.place)) (sym c.self.view_is) c.in_ok-place.ensures.place in
    let had : bool_to_nat c.is_some.result ≡ bool_to_nat (is_some (get_or xs c.in_ok-place.place x).note) = ap bool_to_nat (c.is_some.ensures ∙ ap (λ (y : Group). is_some y.note) c.remove-gone.ensures.value) in
    omega (arith, had, one_counted (λ (y : Group). is_some y.note) xs c.in_ok-place.place x here.0, c.self.invariant.noted)

pub recounted-self-inside-requires-2-clause-few : goal.recounted-self-inside-requires-2-clause-few
recounted-self-inside-requires-2-clause-few c = countable (λ (y : Group). is_some y.note) c.self.inside.list.items c.self.inside.noted c.self.invariant.few c.self.invariant.noted

pub invariant_of-self : goal.invariant_of-self
invariant_of-self c =
    let xs = c.self.inside.list.items in
    let x = c.remove-gone.result in
    let here : IsGroupPlace c.args.tgid xs (Some c.in_ok-place.place) = subst (λ (ys : List Group). IsGroupPlace c.args.tgid ys (Some c.in_ok-place.place)) (sym c.self.view_is) c.in_ok-place.ensures.place in
    let was : bool_to_nat c.is_stopping.result ≡ bool_to_nat (is_stopping (get_or xs c.in_ok-place.place x).group_stop) = ap bool_to_nat (c.is_stopping.ensures ∙ ap (λ (y : Group). is_stopping y.group_stop) c.remove-gone.ensures.value) in
    let had : bool_to_nat c.is_some.result ≡ bool_to_nat (is_some (get_or xs c.in_ok-place.place x).note) = ap bool_to_nat (c.is_some.ensures ∙ ap (λ (y : Group). is_some y.note) c.remove-gone.ensures.value) in
    rw (c.remove-gone.ensures.items, c.remove.ensures) (gone xs _ _ _ _ _ c.in_ok-place.place x c.self.invariant here.0 (omega (arith, was, c.recounted-self-inside.ensures)) (omega (arith, had, c.recounted-self-inside-2.ensures)))

pub returns-clause-kept : goal.returns-clause-kept
returns-clause-kept c =
    let none : Bool → List Group = λ b. filter (λ (x : Group). not (x.tgid == c.args.tgid) || b) c.args.self.now in
    c.remove-gone.ensures.items ∙ (ap (λ (xs : List Group). remove xs c.in_ok-place.place) c.self.view_is ∙ (one_goes c.args.tgid c.args.self.now c.in_ok-place.place c.remove-gone.result c.in_ok-place.ensures.place.0 (c.in_ok-place.ensures.place.3 c.remove-gone.result) (c.place.ensures.once c.args.tgid) ∙ ap none (sym (sym c.has_member.ensures ∙ c.if-has_member.false))))

pub returns-in_err-place-clause-kept : goal.returns-in_err-place-clause-kept
returns-in_err-place-clause-kept c =
    let none : Bool → List Group = λ b. filter (λ (x : Group). not (x.tgid == c.args.tgid) || b) c.args.self.now in
    sym (none_kept_out c.args.tgid c.args.self.now c.in_err-place.ensures.place.1) ∙ ap none (sym (sym c.has_member.ensures ∙ c.if-has_member.false))
