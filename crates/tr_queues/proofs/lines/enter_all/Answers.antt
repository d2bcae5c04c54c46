use Rattle.std.proofs.Common.{◌≡◌, ◌∙◌, ◌+◌, ◌<◌, ◌++◌, ◌∷◌, [], List, false, true, ap, arith, get_or, length, rules, subst, sym, take}
use Rattle.std.proofs.lemmas.List.{length-append, length-take-le}
use Rattle.indexmap.specs.IndexMap.{index_map_len, spare}
use Rattle.tr_queues.specs.declared.slots.Slot.{Slot}
use Rattle.tr_queues.specs.Lines.{AreLines}
use Rattle.tr_queues.specs.Slots.{standing}
use Rattle.tr_queues.proofs.Entries.{line_few, lines_more, queue_few}
use Rattle.tr_queues.proofs.Standing.{standing_few, taken_few, taken_gone, taken_waits}
use Rattle.tr_queues.proofs.lines.enter_all.Goals.{then-not-slot, else-not-slot}
use Rattle.tr_queues.proofs.lines.enter_all.Goals as goal

pub enter_line-requires-clause-spare : goal.enter_line-requires-clause-spare
enter_line-requires-clause-spare c =
    let ss : List Slot = c.args.slots.now in
    let i = c.loop-slot.slot-index in
    let s : Slot = c.slot-item.result in
    let here : get_or ss i s ≡ s = search rules in
    let waits : (get_or ss i s).gone ≡ false = search rules in
    let n = ap length (taken_waits ss i s (search rules) waits) ∙ length-append (standing (take i ss)) ((get_or ss i s).waiting ∷ []) in
    omega (arith, n, taken_few (i + 1) ss, c.loop-slot.invariant.1, c.requires.line_room)

pub enter_line-requires-clause-few : goal.enter_line-requires-clause-few
enter_line-requires-clause-few c = λ l e.
    let ss : List Slot = c.args.slots.now in
    let i = c.loop-slot.slot-index in
    let few = line_few c.loop-slot.lines c.loop-slot.queues (standing (take i ss)) c.loop-slot.invariant.0 _ _ l e in
    let m = standing_few (take i ss) in
    let k = length-take-le i ss (search rules) in
    search (rules, few, m, k)

pub enter_queue-requires-clause-spare : goal.enter_queue-requires-clause-spare
enter_queue-requires-clause-spare c =
    let ss : List Slot = c.args.slots.now in
    let i = c.loop-slot.slot-index in
    let s : Slot = c.slot-item.result in
    let here : get_or ss i s ≡ s = search rules in
    let waits : (get_or ss i s).gone ≡ false = search rules in
    let n = ap length (taken_waits ss i s (search rules) waits) ∙ length-append (standing (take i ss)) ((get_or ss i s).waiting ∷ []) in
    omega (arith, n, taken_few (i + 1) ss, c.loop-slot.invariant.2, c.requires.queue_room)

pub enter_queue-requires-clause-few : goal.enter_queue-requires-clause-few
enter_queue-requires-clause-few c = λ x e.
    let ss : List Slot = c.args.slots.now in
    let i = c.loop-slot.slot-index in
    let few = queue_few c.loop-slot.lines c.loop-slot.queues (standing (take i ss)) c.loop-slot.invariant.0 _ x e in
    let m = standing_few (take i ss) in
    let k = length-take-le i ss (search rules) in
    search (rules, few, m, k)

pub loop-slot-preserved : goal.loop-slot-preserved
loop-slot-preserved c =
    let ss : List Slot = c.args.slots.now in
    let i = c.loop-slot.slot-index in
    let s : Slot = c.slot-item.result in
    let h = c.loop-slot.invariant in
    let within : i < length ss = search rules in
    let here : get_or ss i s ≡ s = search rules in
    elim c.if-not-slot.branch [
      | then-not-slot w ↦
          let waits : (get_or ss i s).gone ≡ false = search rules in
          let more : standing (take (i + 1) ss) ≡ standing (take i ss) ++ s.waiting ∷ [] = taken_waits ss i s within waits ∙ ap (λ (t : Slot). standing (take i ss) ++ t.waiting ∷ []) here in
          let n = ap length more ∙ length-append (standing (take i ss)) (s.waiting ∷ []) in
          let lines = lines_more c.loop-slot.lines w.enter_line.new.lines c.loop-slot.queues w.enter_queue.new.queues s.waiting (standing (take i ss)) h.0 w.enter_line.ensures.get w.enter_queue.ensures.own w.enter_queue.ensures.others in
          let made = subst (λ vs. AreLines w.enter_line.new.lines w.enter_queue.new.queues vs) (sym more) lines in
          let a = ap spare w.lines-is in
          let b = ap spare w.queues-is in
          let d = ap index_map_len w.lines-is in
          let e = ap index_map_len w.queues-is in (
            subst (λ ls. AreLines ls c.if-not-slot.queues (standing (take (i + 1) ss))) (sym w.lines-is) (subst (λ qs. AreLines w.enter_line.new.lines qs (standing (take (i + 1) ss))) (sym w.queues-is) made),
            omega (arith, n, a, h.1, w.enter_line.ensures.spare),
            omega (arith, n, b, h.2, w.enter_queue.ensures.spare),
            omega (arith, a, d, h.3, w.enter_line.ensures.places),
            omega (arith, b, e, h.4, w.enter_queue.ensures.places),
            omega (arith, d, n, h.5, w.enter_line.ensures.len),
          )
      | else-not-slot w ↦
          let gone : (get_or ss i s).gone ≡ true = search rules in
          let same : standing (take (i + 1) ss) ≡ standing (take i ss) = taken_gone ss i s within gone in
          let n = ap length same in
          let a = ap spare w.lines-is in
          let b = ap spare w.queues-is in
          let d = ap index_map_len w.lines-is in
          let e = ap index_map_len w.queues-is in
          let made = subst (λ vs. AreLines c.loop-slot.lines c.loop-slot.queues vs) (sym same) h.0 in (
            subst (λ ls. AreLines ls c.if-not-slot.queues (standing (take (i + 1) ss))) (sym w.lines-is) (subst (λ qs. AreLines c.loop-slot.lines qs (standing (take (i + 1) ss))) (sym w.queues-is) made),
            omega (arith, n, a, h.1),
            omega (arith, n, b, h.2),
            omega (arith, a, d, h.3),
            omega (arith, b, e, h.4),
            omega (arith, d, n, h.5),
          )
    ]
