use Rattle.std.proofs.Common.{◌∙◌, ap, not, rules, subst, sym}
use Rattle.std.proofs.lemmas.Fn.{filter_same}
use Rattle.tr_model.specs.Journals.{IsSorted}
use Rattle.tr_queues.specs.declared.slots.Slot.{Slot}
use Rattle.tr_queues.specs.Slots.{all_in, standing}
use Rattle.tr_queues.proofs.Standing.{sorted_closed, standing_closed}
use Rattle.tr_queues.proofs.slots.close_up.Goals as goal

pub returns-clause-waiting : goal.returns-clause-waiting
returns-clause-waiting c =
    let closed = filter_same _ (λ (s : Slot). not s.gone) _ (λ s b f' h. search rules) _ _ c.retain.ensures.filtered in
    ap standing closed ∙ standing_closed c.args.slots.now.items

pub returns-clause-sorted : goal.returns-clause-sorted
returns-clause-sorted c = λ h.
    let closed = filter_same _ (λ (s : Slot). not s.gone) _ (λ s b f' h. search rules) _ _ c.retain.ensures.filtered in
    subst (λ xs. IsSorted (all_in xs)) (sym closed) (sorted_closed (λ s. not s.gone) c.args.slots.now.items h)
