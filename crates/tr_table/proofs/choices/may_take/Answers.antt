use Rattle.std.proofs.Common.{◌≡◌, ◌∙◌, ◌==◌, ◌∷◌, ◌+◌, Bool, List, ap, drop, filter, sym}
use Rattle.std.specs.List.{list_any}
use Rattle.std.proofs.lemmas.List.{drop_more}
use Rattle.tr_queues.specs.declared.slots.Slot.{Slot}
use Rattle.tr_table.specs.Choices.{goes_first, open_in}
use Rattle.tr_table.proofs.Targets.{none_chosen}
use Rattle.tr_table.proofs.choices.may_take.Goals as goal

pub loop-slot-preserved : goal.loop-slot-preserved
loop-slot-preserved c =
    let ss = c.args.slots.now in
    let s : Slot = c.slot-item.result in
    let i = c.loop-slot.slot-index in
    let all = open_in c.args.target c.args.blocked ss in
    let found : List Slot → Bool = λ xs. list_any (λ j. j.n == c.args.n) (filter (goes_first all) (open_in c.args.target c.args.blocked xs)) in
    let here : drop i ss ≡ s ∷ drop (i + 1) ss = drop_more ss i s c.loop-slot-test.true ∙ ap (λ x. x ∷ drop (i + 1) ss) (sym c.slot-item.is) in
    let past = none_chosen all c.args.target c.args.blocked c.args.n s (drop (i + 1) ss) (sym c.is_choice.ensures ∙ c.if-is_choice.false) in
    sym past ∙ (ap found (sym here) ∙ c.loop-slot.invariant)
