use Rattle.std.proofs.Common.{◌≡◌, ◌∙◌, ◌++◌, ◌∷◌, [], List, false, ap, arith, length, refl, subst, sym}
use Rattle.std.proofs.lemmas.List.{length-append}
use Rattle.tr_model.specs.declared.rows.Waiting.{Waiting}
use Rattle.tr_model.specs.Journals.{IsSorted}
use Rattle.tr_queues.specs.declared.slots.Slot.{Slot}
use Rattle.tr_queues.specs.Lines.{AreLines}
use Rattle.tr_queues.specs.Queues.{AllBelow, count_own}
use Rattle.tr_queues.specs.Slots.{all_in, standing}
use Rattle.tr_queues.proofs.Entries.{line_few, lines_more, queue_few}
use Rattle.tr_queues.proofs.Owns.{one_share, own_few, own_last}
use Rattle.tr_queues.proofs.Standing.{below_all, sorted_more, standing_last}
use Rattle.tr_queues.proofs.pending.Pending.push.Goals as goal

pub enter_line-requires-clause-few : goal.enter_line-requires-clause-few
enter_line-requires-clause-few c = λ l e.
    let p = c.args.self.now in
    let k = c.requires.kept in
    let few = line_few p.lines p.queues (standing p.slots.items) k.lines c.args.waiting.now.target c.args.waiting.now.instance.sig l e in
    omega (arith, few, k.counted, k.small, c.requires.room)

pub enter_queue-requires-clause-few : goal.enter_queue-requires-clause-few
enter_queue-requires-clause-few c = λ x e.
    let p = c.args.self.now in
    let k = c.requires.kept in
    let few = queue_few p.lines p.queues (standing p.slots.items) k.lines c.args.waiting.now.target x e in
    omega (arith, few, k.counted, k.small, c.requires.room)

pub overflow_add-self : goal.overflow_add-self
overflow_add-self c = omega (arith, c.requires.kept.small, c.requires.room)

pub overflow_add-self-2 : goal.overflow_add-self-2
overflow_add-self-2 c =
    let p = c.args.self.now in
    let k = c.requires.kept in
    let w : Waiting = c.args.waiting.now in
    omega (arith, own_few (standing p.slots.items), one_share w.target, k.counted, k.counted_own, k.small, c.requires.room)

pub returns-clause-waiting : goal.returns-clause-waiting
returns-clause-waiting c =
    let w : Waiting = c.args.waiting.now in
    let ss : List Slot = c.trim.new.slots.items in
    let s : Slot = record { waiting = w; gone = false } in
    ap standing c.push_reserved.ensures.items ∙ (standing_last ss s refl ∙ ap (λ vs. vs ++ w ∷ []) c.trim.ensures.waiting)

pub returns-clause-kept : goal.returns-clause-kept
returns-clause-kept c =
    let p = c.args.self.now in
    let k = c.requires.kept in
    let w : Waiting = c.args.waiting.now in
    let ss : List Slot = c.trim.new.slots.items in
    let s : Slot = record { waiting = w; gone = false } in
    let made : standing c.push_reserved.new.self.items ≡ standing p.slots.items ++ w ∷ [] = ap standing c.push_reserved.ensures.items ∙ (standing_last ss s refl ∙ ap (λ vs. vs ++ w ∷ []) c.trim.ensures.waiting) in
    let trimmed : IsSorted (all_in ss) = c.trim.ensures.sorted k.sorted in
    let last : AllBelow w.instance.n (standing ss) = subst (AllBelow w.instance.n) (sym c.trim.ensures.waiting) c.requires.last in
    let below : AllBelow w.instance.n (all_in ss) = below_all w.instance.n ss trimmed c.trim.ensures.last last in
    let n = ap length made ∙ length-append (standing p.slots.items) (w ∷ []) in
    record {
      sorted = subst (λ xs. IsSorted (all_in xs)) (sym c.push_reserved.ensures.items) (sorted_more ss s trimmed below);
      lines = subst (AreLines c.enter_line.new.lines c.enter_queue.new.queues) (sym made) (lines_more p.lines c.enter_line.new.lines p.queues c.enter_queue.new.queues w (standing p.slots.items) k.lines c.enter_line.ensures.get c.enter_queue.ensures.own c.enter_queue.ensures.others);
      counted = omega (arith, n, k.counted);
      counted_own = omega (arith, ap count_own made, own_last (standing p.slots.items) w, k.counted_own);
      small = omega (arith, k.small, c.requires.room);
      slot_places = omega (arith, k.slot_places, c.trim.ensures.len, c.trim.ensures.capacity, c.push_reserved.ensures.len, c.push_reserved.ensures.capacity, c.requires.room);
      line_places = record {
        more = omega (arith, k.line_places.more, c.enter_line.ensures.spare);
        anew = omega (arith, k.line_places.anew, c.enter_line.ensures.places, c.requires.room);
      };
      queue_places = record {
        more = omega (arith, k.queue_places.more, c.enter_queue.ensures.spare);
        anew = omega (arith, k.queue_places.anew, c.enter_queue.ensures.places, c.requires.room);
      };
    }
