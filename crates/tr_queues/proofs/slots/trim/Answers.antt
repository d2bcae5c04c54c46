use Rattle.std.proofs.Common.{◌≡◌, ◌∙◌, ◌-◌, List, ap, arith, length, subst, sym, take, vec_len}
use Rattle.std.proofs.lemmas.List.{length-take-le}
use Rattle.tr_queues.specs.declared.slots.Slot.{Slot}
use Rattle.tr_queues.specs.Slots.{all_in, standing}
use Rattle.tr_model.specs.Journals.{IsSorted}
use Rattle.tr_queues.proofs.Standing.{sorted_take}
use Rattle.tr_queues.proofs.slots.trim.Goals as goal

pub loop-slots-smaller : goal.loop-slots-smaller
loop-slots-smaller c =
    let some = c.ends_empty.ensures.some c.loop-slots-test.true in
    let ss : List Slot = c.loop-slots.slots.items in
    let n = ap length c.pop-gone.ensures.rest in
    let m = length-take-le (vec_len c.loop-slots.slots - 1) ss (omega (arith, c.loop-slots.slots.ok.0)) in
    omega (arith, some, c.deref.ensures.len, n, m, c.pop-gone.new.self.ok.0)

pub loop-slots-preserved : goal.loop-slots-preserved
loop-slots-preserved c =
    let ss : List Slot = c.loop-slots.slots.items in
    let xs : List Slot = c.deref.result.now in
    let h = c.loop-slots.invariant in
    let left : c.pop-gone.new.self.items ≡ take (length xs - 1) xs = c.pop-gone.ensures.rest ∙ sym (λ i. take (c.deref.ensures.len i - 1) (c.deref.ensures.value i)) in
    let same : standing c.pop-gone.new.self.items ≡ standing ss = ap standing left ∙ (c.ends_empty.ensures.empty c.loop-slots-test.true ∙ ap standing c.deref.ensures.value) in
    let up : IsSorted (all_in ss) → IsSorted (all_in c.pop-gone.new.self.items) = λ k. subst (λ ys. IsSorted (all_in ys)) (sym c.pop-gone.ensures.rest) (sorted_take _ ss k) in
    (same ∙ h.0, (λ k. up (h.1 k)), omega (arith, h.2, c.pop-gone.ensures.len), c.pop-gone.ensures.capacity ∙ h.3)
