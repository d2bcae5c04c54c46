use Rattle.std.proofs.Common.{rules, ◌≡◌, ◌∙◌, ◌+◌, ◌<◌, ◌++◌, ◌∷◌, [], List, ap, false, get_or, length, sym, take, true}
use Rattle.tr_queues.specs.declared.slots.Slot.{Slot}
use Rattle.tr_queues.specs.Slots.{standing}
use Rattle.tr_queues.proofs.Standing.{taken_gone, taken_waits}
use Rattle.tr_queues.proofs.slots.list_standing.Goals.{then-not-slot+in_ok-push, else-not-slot}
use Rattle.tr_queues.proofs.slots.list_standing.Goals as goal

pub loop-slot-preserved : goal.loop-slot-preserved
loop-slot-preserved c =
    let ss : List Slot = c.args.slots.now in
    let i = c.loop-slot.slot-index in
    let s : Slot = c.slot-item.result in
    let within : i < length ss = search rules in
    let here : get_or ss i s ≡ s = search rules in
    elim c.if-not-slot.branch [
      | then-not-slot+in_ok-push w ↦
          let waits : (get_or ss i s).gone ≡ false = search rules in
          let more : standing (take (i + 1) ss) ≡ standing (take i ss) ++ s.waiting ∷ [] = taken_waits ss i s within waits ∙ ap (λ (t : Slot). standing (take i ss) ++ t.waiting ∷ []) here in
          search (rules, sym more)
      | else-not-slot w ↦
          let gone : (get_or ss i s).gone ≡ true = search rules in
          let same : standing (take (i + 1) ss) ≡ standing (take i ss) = taken_gone ss i s within gone in
          search (rules, sym same)
    ]
