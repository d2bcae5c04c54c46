use Rattle.std.proofs.Common.{◌≡◌, None, IfNone, IfSome, get_or, rules, subst, sym}
use Rattle.std.proofs.lemmas.List.Sorted.{answers_always}
use Rattle.tr_queues.specs.Choices.{waiting_in}
use Rattle.tr_queues.specs.declared.slots.Slot.{Slot}
use Rattle.tr_queues.specs.Slots.{all_in}
use Rattle.tr_queues.proofs.Standing.{number, place_found, place_none}
use Rattle.tr_queues.proofs.slots.place_of.Goals as goal

pub returns-clause-found : goal.returns-clause-found
returns-clause-found c =
    let facts = c.binary_search_by_key.ensures in
    let by = facts.position number (answers_always _ _ _ (λ f a r g called. search rules)) in
    subst (λ r. IfSome r (λ i. (s : Slot) → number (get_or c.args.slots.now i s) ≡ c.args.n)) (sym c.ok.ensures.value) (place_found c.args.slots.now c.requires c.args.n c.binary_search_by_key.result facts.bound by)

pub returns-clause-none : goal.returns-clause-none
returns-clause-none c =
    let facts = c.binary_search_by_key.ensures in
    let by = facts.position number (answers_always _ _ _ (λ f a r g called. search rules)) in
    subst (λ r. IfNone r (waiting_in (all_in c.args.slots.now) c.args.n ≡ None)) (sym c.ok.ensures.value) (place_none c.args.slots.now c.requires c.args.n c.binary_search_by_key.result facts.bound by)
