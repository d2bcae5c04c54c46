use Rattle.std.proofs.Common.{◌≡◌, ◌∙◌, ◌+◌, ◌==◌, ◌<◌, ◌≤◌, ◌⊎◌, inl, inr, ℕ, List, ap, arith, false, get_or, length, not, sym}
use Rattle.std.proofs.lemmas.Bool.{cases_lt}
use Rattle.std.proofs.lemmas.List.{get_or_default}
use Rattle.tr_model.specs.declared.rows.Group.{Group}
use Rattle.tr_model.specs.Journals.{occurs}
use Rattle.tr_table.specs.Settled.{is_open_row}
use Rattle.tr_table.proofs.Telling.{nowhere_left}
use Rattle.tr_table.proofs.unsettled.none_open.Goals as goal

pub loop-place-preserved : goal.loop-place-preserved
loop-place-preserved c = λ k d l. go k d l (cases_lt k c.loop-place.place)
  where
    go : (k : ℕ) (d : Group) → k < c.loop-place.place + 1 → (k < c.loop-place.place) ⊎ (c.loop-place.place ≤ k) → is_open_row c.args.threads.now (not (occurs k c.args.places.now.numbers == 0)) (get_or c.args.groups.now k d) ≡ false
    go k d l (inl h) = c.loop-place.invariant k d h
    go k d l (inr h) =
        let place = c.loop-place.place in
        let x = c.index-list-place.result in
        let here : k ≡ place = omega (arith, l, h) in
        let closed : is_open_row c.args.threads.now (not (occurs place c.args.places.now.numbers == 0)) x ≡ false = ap (λ b. is_open_row c.args.threads.now b x) (sym c.contains.ensures) ∙ (sym c.is_open.ensures ∙ c.if-is_open.false) in
        let within : place < length c.args.groups.now = omega (arith, c.loop-place-test.true, c.len-place-end.ensures.len) in
        let same : get_or c.args.groups.now k d ≡ x = (λ i. get_or c.args.groups.now (here i) d) ∙ (get_or_default c.args.groups.now place d x within ∙ sym (c.index-list-place.is ∙ ap (λ (xs : List Group). get_or xs place x) c.as_slice-list.ensures)) in
        (λ i. is_open_row c.args.threads.now (not (occurs (here i) c.args.places.now.numbers == 0)) (same i)) ∙ closed

pub returns : goal.returns
returns c e = nowhere_left c.args.threads.now c.args.groups.now c.args.places.now.numbers c.len-place-end.ensures.once (λ k d l. c.loop-place.invariant k d (omega (arith, l, c.len-place-end.ensures.len, c.loop-place-test.false)))
