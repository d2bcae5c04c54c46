use Rattle.std.proofs.Common.{◌≡◌, ◌∙◌, List, ap, arith, length, map, rules, subst, sym}
use Rattle.std.proofs.lemmas.List.{length-map}
use Rattle.tr_model.specs.Journals.{IsSorted}
use Rattle.tr_model.specs.Moves.{retargeted}
use Rattle.tr_queues.specs.declared.slots.Slot.{Slot}
use Rattle.tr_queues.specs.Lines.{AreLines}
use Rattle.tr_queues.specs.Queues.{count_own}
use Rattle.tr_queues.specs.Slots.{all_in, retargeted_slot, standing}
use Rattle.tr_queues.proofs.Owns.{own_retargeted}
use Rattle.tr_queues.proofs.Standing.{sorted_aimed, standing_retargeted}
use Rattle.tr_queues.proofs.Retargeting.{unaimed}
use Rattle.tr_queues.proofs.pending.Pending.retarget.Goals as goal

pub returns-then-queue_len-eq0-clause-waiting : goal.returns-then-queue_len-eq0-clause-waiting
returns-then-queue_len-eq0-clause-waiting c = unaimed c.args.from c.args.to (standing c.args.self.now.slots.items) (search rules)

pub enter_all-requires-clause-line_room : goal.enter_all-requires-clause-line_room
enter_all-requires-clause-line_room c =
    let ss : List Slot = c.args.self.now.slots.items in
    let moved : c.deref.result.now ≡ map (retargeted_slot c.args.from c.args.to) ss = c.deref.ensures.value ∙ c.retarget.ensures.items in
    let n = ap length (ap standing moved ∙ standing_retargeted c.args.from c.args.to ss) ∙ length-map (standing ss) (retargeted c.args.from c.args.to) in
    omega (arith, n, c.requires.counted, c.requires.line_places.anew)

pub enter_all-requires-clause-queue_room : goal.enter_all-requires-clause-queue_room
enter_all-requires-clause-queue_room c =
    let ss : List Slot = c.args.self.now.slots.items in
    let moved : c.deref.result.now ≡ map (retargeted_slot c.args.from c.args.to) ss = c.deref.ensures.value ∙ c.retarget.ensures.items in
    let n = ap length (ap standing moved ∙ standing_retargeted c.args.from c.args.to ss) ∙ length-map (standing ss) (retargeted c.args.from c.args.to) in
    omega (arith, n, c.requires.counted, c.requires.queue_places.anew)

pub returns-clause-waiting : goal.returns-clause-waiting
returns-clause-waiting c = ap standing c.retarget.ensures.items ∙ standing_retargeted c.args.from c.args.to c.args.self.now.slots.items

pub returns-clause-kept : goal.returns-clause-kept
returns-clause-kept c =
    let from = c.args.from in
    let to = c.args.to in
    let k = c.requires in
    let ss : List Slot = c.args.self.now.slots.items in
    let moved : c.retarget.new.slots.items ≡ map (retargeted_slot from to) ss = c.retarget.ensures.items in
    let n = ap length (ap standing moved ∙ standing_retargeted from to ss) ∙ length-map (standing ss) (retargeted from to) in
    let m = ap (λ (xs : List Slot). length (standing xs)) c.deref.ensures.value in
    record {
      sorted = subst (λ xs. IsSorted (all_in xs)) (sym moved) (sorted_aimed from to ss k.sorted);
      lines = subst (λ xs. AreLines c.enter_all.new.lines c.enter_all.new.queues (standing xs)) c.deref.ensures.value c.enter_all.ensures.made;
      counted = omega (arith, n, k.counted);
      counted_own = k.counted_own ∙ sym (ap count_own (ap standing moved ∙ standing_retargeted from to ss) ∙ own_retargeted from to (standing ss));
      small = k.small;
      slot_places = omega (arith, k.slot_places, c.retarget.ensures.len, c.retarget.ensures.capacity);
      line_places = record {
        more = omega (arith, n, m, k.counted, k.line_places.anew, c.enter_all.ensures.line_spare);
        anew = omega (arith, k.line_places.anew, c.enter_all.ensures.line_places);
      };
      queue_places = record {
        more = omega (arith, n, m, k.counted, k.queue_places.anew, c.enter_all.ensures.queue_spare);
        anew = omega (arith, k.queue_places.anew, c.enter_all.ensures.queue_places);
      };
    }
