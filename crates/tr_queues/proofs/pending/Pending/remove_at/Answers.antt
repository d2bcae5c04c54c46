use Rattle.std.proofs.Common.{◌≡◌, ◌∙◌, ◌+◌, ◌<◌, ◌++◌, ◌∷◌, ℕ, List, true, drop, filter, get_or, length, set, slice_set, take, ap, arith, rules, subst, sym}
use Rattle.std.proofs.lemmas.List.{length-append}
use Rattle.tr_model.specs.declared.rows.Waiting.{Waiting}
use Rattle.tr_model.specs.Journals.{IsSorted}
use Rattle.tr_queues.specs.declared.slots.Slot.{Slot}
use Rattle.tr_model.specs.declared.rows.Target.{Target}
use Rattle.tr_queues.specs.Lines.{AreLines, is_key, line_at, line_of}
use Rattle.tr_queues.specs.Queues.{count_own, is_one}
use Rattle.tr_queues.specs.Slots.{all_in, emptied, line_in, standing}
use Rattle.tr_queues.proofs.Entries.{has_line, has_queue, lines_less}
use Rattle.tr_queues.proofs.Owns.{own_between}
use Rattle.tr_queues.proofs.Standing.{all_at, emptied_at, same_default, standing_sorted, tail_is, waits_at}
use Rattle.tr_queues.proofs.pending.Pending.remove_at.Goals as goal

pub leave_line-stays-requires : goal.leave_line-stays-requires
leave_line-stays-requires c =
    let p = c.args.self.now in
    let ss : List Slot = p.slots.items in
    let s : Slot = c.index.result.now in
    let w : Waiting = s.waiting in
    let i = c.args.place in
    let here : get_or ss i s ≡ s = sym c.index.ensures in
    let split : standing ss ≡ standing (take i ss) ++ w ∷ standing (drop (i + 1) ss) = waits_at s ss i (search rules) (c.requires.there s) ∙ ap (λ (t : Slot). standing (take i ss) ++ t.waiting ∷ standing (drop (i + 1) ss)) here in
    let sorted : IsSorted (standing (take i ss) ++ w ∷ standing (drop (i + 1) ss)) = subst IsSorted split (standing_sorted ss c.requires.kept.sorted) in
    let old : AreLines p.lines p.queues (standing (take i ss) ++ w ∷ standing (drop (i + 1) ss)) = subst (AreLines p.lines p.queues) split c.requires.kept.lines in
    has_line p.lines p.lines p.queues p.queues w (standing (take i ss)) (standing (drop (i + 1) ss)) sorted old

pub leave_queue-requires : goal.leave_queue-requires
leave_queue-requires c =
    let p = c.args.self.now in
    let ss : List Slot = p.slots.items in
    let s : Slot = c.index.result.now in
    let w : Waiting = s.waiting in
    let i = c.args.place in
    let here : get_or ss i s ≡ s = sym c.index.ensures in
    let split : standing ss ≡ standing (take i ss) ++ w ∷ standing (drop (i + 1) ss) = waits_at s ss i (search rules) (c.requires.there s) ∙ ap (λ (t : Slot). standing (take i ss) ++ t.waiting ∷ standing (drop (i + 1) ss)) here in
    let sorted : IsSorted (standing (take i ss) ++ w ∷ standing (drop (i + 1) ss)) = subst IsSorted split (standing_sorted ss c.requires.kept.sorted) in
    let old : AreLines p.lines p.queues (standing (take i ss) ++ w ∷ standing (drop (i + 1) ss)) = subst (AreLines p.lines p.queues) split c.requires.kept.lines in
    has_queue p.lines p.lines p.queues p.queues w (standing (take i ss)) (standing (drop (i + 1) ss)) sorted old

pub overflow_sub-self : goal.overflow_sub-self
overflow_sub-self c =
    let p = c.args.self.now in
    let ss : List Slot = p.slots.items in
    let s : Slot = c.index.result.now in
    let w : Waiting = s.waiting in
    let i = c.args.place in
    let here : get_or ss i s ≡ s = sym c.index.ensures in
    let split : standing ss ≡ standing (take i ss) ++ w ∷ standing (drop (i + 1) ss) = waits_at s ss i (search rules) (c.requires.there s) ∙ ap (λ (t : Slot). standing (take i ss) ++ t.waiting ∷ standing (drop (i + 1) ss)) here in
    omega (arith, ap count_own split, own_between (standing (take i ss)) (standing (drop (i + 1) ss)) w, c.requires.kept.counted_own)

pub overflow_sub-self-2 : goal.overflow_sub-self-2
overflow_sub-self-2 c =
    let p = c.args.self.now in
    let ss : List Slot = p.slots.items in
    let s : Slot = c.index.result.now in
    let i = c.args.place in
    let n = ap length (waits_at s ss i (search rules) (c.requires.there s)) ∙ length-append (standing (take i ss)) ((get_or ss i s).waiting ∷ standing (drop (i + 1) ss)) in
    let counted = c.requires.kept.counted in
    omega (arith, n, counted)

pub returns-clause-kept : goal.returns-clause-kept
returns-clause-kept c =
    let p = c.args.self.now in
    let ss : List Slot = p.slots.items in
    let s : Slot = c.index.result.now in
    let w : Waiting = s.waiting in
    let i = c.args.place in
    let here : get_or ss i s ≡ s = sym c.index.ensures in
    let within : i < length ss = search rules in
    let split : standing ss ≡ standing (take i ss) ++ w ∷ standing (drop (i + 1) ss) = waits_at s ss i within (c.requires.there s) ∙ ap (λ (t : Slot). standing (take i ss) ++ t.waiting ∷ standing (drop (i + 1) ss)) here in
    let sorted : IsSorted (standing (take i ss) ++ w ∷ standing (drop (i + 1) ss)) = subst IsSorted split (standing_sorted ss c.requires.kept.sorted) in
    let old : AreLines p.lines p.queues (standing (take i ss) ++ w ∷ standing (drop (i + 1) ss)) = subst (AreLines p.lines p.queues) split c.requires.kept.lines in
    let rest : List Waiting = filter (is_one w.target w.instance.sig) (standing (drop (i + 1) ss)) in
    let own : (q : Target) (k : ℕ) (before : List Waiting) → is_key w q k ≡ true → IsSorted (before ++ w ∷ rest) → line_at p.lines w.target w.instance.sig ≡ line_of (before ++ w ∷ rest) → line_at c.leave_line-stays.new.lines q k ≡ line_of (before ++ rest)
    = subst (λ xs. (q : Target) (k : ℕ) (before : List Waiting) → is_key w q k ≡ true → IsSorted (before ++ w ∷ line_in w xs) → line_at p.lines w.target w.instance.sig ≡ line_of (before ++ w ∷ line_in w xs) → line_at c.leave_line-stays.new.lines q k ≡ line_of (before ++ line_in w xs)) (tail_is c.deref.result.now (i + 1) ∙ ap (drop (i + 1)) c.deref.ensures.value) c.leave_line-stays.ensures.own in
    let lines = lines_less p.lines c.leave_line-stays.new.lines p.queues c.leave_queue.new.queues w (standing (take i ss)) (standing (drop (i + 1) ss)) sorted old c.leave_line-stays.result c.leave_line-stays.ensures.answer c.leave_line-stays.ensures.others own c.leave_queue.ensures.own c.leave_queue.ensures.others in
    let n = ap length split ∙ length-append (standing (take i ss)) (w ∷ standing (drop (i + 1) ss)) in
    let m = length-append (standing (take i ss)) (standing (drop (i + 1) ss)) in
    let new : slice_set ss i (record { waiting = c.index_mut.result.now.waiting; gone = true }) ≡ set ss i (emptied (get_or ss i s)) = ap (λ t. set ss i (emptied t)) (c.index_mut.ensures.value ∙ same_default ss i c.index_mut.result.now s within) in
    let small = c.requires.kept.small in
    let left : standing (slice_set ss i (record { waiting = c.index_mut.result.now.waiting; gone = true })) ≡ standing (take i ss) ++ standing (drop (i + 1) ss) = ap standing new ∙ emptied_at s ss i within in
    let fewer = ap length left in
    record {
      sorted = subst IsSorted (sym (ap all_in new ∙ all_at s ss i within)) c.requires.kept.sorted;
      lines = subst (AreLines c.leave_line-stays.new.lines c.leave_queue.new.queues) (sym left) lines;
      counted = omega (arith, n, m, fewer, c.requires.kept.counted);
      counted_own = omega (arith, ap count_own split, own_between (standing (take i ss)) (standing (drop (i + 1) ss)) w, ap count_own left, c.requires.kept.counted_own);
      small = omega (arith, n, c.requires.kept.counted, small);
      slot_places = c.requires.kept.slot_places;
      line_places = record {
        more = omega (arith, c.requires.kept.line_places.more, c.leave_line-stays.ensures.spare);
        anew = omega (arith, n, c.requires.kept.counted, c.requires.kept.line_places.anew, c.leave_line-stays.ensures.places);
      };
      queue_places = record {
        more = omega (arith, c.requires.kept.queue_places.more, c.leave_queue.ensures.spare);
        anew = omega (arith, n, c.requires.kept.counted, c.requires.kept.queue_places.anew, c.leave_queue.ensures.places);
      };
    }
