use Rattle.std.proofs.Common.{◌≡◌, ◌∙◌, ◌+◌, ◌<◌, ◌++◌, List, Bool, ap, arith, drop, get_or, length, map, rules, set, subst, sym, take}
use Rattle.std.proofs.lemmas.List.{set-get_or}
use Rattle.std.proofs.lemmas.List.Edits.{map_over_more}
use Rattle.tr_model.specs.declared.rows.Waiting.{Waiting}
use Rattle.tr_queues.specs.declared.pending.Pending.{Pending}
use Rattle.tr_queues.specs.declared.slots.Slot.{Slot}
use Rattle.tr_queues.specs.Changes.{is_picked}
use Rattle.tr_queues.specs.Slots.{IsPending, emptied, standing, without_picked}
use Rattle.tr_queues.proofs.Standing.{mapped_all, picked_gone, picked_is, picked_not, standing_picked}
use Rattle.tr_queues.proofs.pending.Pending.drop_picked.Goals.{then-not-slot+then-is_picked, else-not-slot, else-not-slot-via-then-not-slot+else-is_picked, else-not-slot-via-else-not-slot}
use Rattle.tr_queues.proofs.pending.Pending.drop_picked.Goals as goal

pub loop-place-preserved : goal.loop-place-preserved
loop-place-preserved c =
    let P : Waiting → Bool = is_picked c.args.threads.now c.args.picked.now in
    let f : Slot → Slot = without_picked P in
    let old : List Slot = c.args.self.now.slots.items in
    let now : List Slot = c.loop-place.self.slots.items in
    let i = c.loop-place.place in
    let s : Slot = c.index-slot.result.now in
    let h = c.loop-place.invariant in
    let within : i < length old = search rules in
    let done : set now i (f s) ≡ map f (take (i + 1) old) ++ drop (i + 1) old = map_over_more f old now i s within h.1 c.index-slot.ensures in
    let same : f s ≡ s → now ≡ map f (take (i + 1) old) ++ drop (i + 1) old = λ e. sym (set-get_or now i s) ∙ (ap (set now i) (sym c.index-slot.ensures ∙ sym e) ∙ done) in
    elim c.if-not-slot.branch [
      | then-not-slot+then-is_picked w ↦
          let e : emptied (get_or now i s) ≡ f s = ap emptied (sym c.index-slot.ensures) ∙ sym (picked_is P s (search rules) (search rules)) in
          let items : w.remove_at.new.self.slots.items ≡ map f (take (i + 1) old) ++ drop (i + 1) old = w.remove_at.ensures.slots s ∙ (ap (set now i) e ∙ done) in
          subst (λ (p : Pending). IsPending p × (p.slots.items ≡ map f (take (i + 1) old) ++ drop (i + 1) old) × (p.room ≡ c.args.self.now.room)) (sym w.self-is) (w.remove_at.ensures.kept, items, w.remove_at.ensures.room ∙ h.2)
      | else-not-slot w ↦
          elim w.else-not-slot.branch [
            | else-not-slot-via-then-not-slot+else-is_picked v ↦
                subst (λ (p : Pending). IsPending p × (p.slots.items ≡ map f (take (i + 1) old) ++ drop (i + 1) old) × (p.room ≡ c.args.self.now.room)) (search rules) (h.0, same (picked_not P s (search rules) (search rules)), h.2)
            | else-not-slot-via-else-not-slot v ↦
                subst (λ (p : Pending). IsPending p × (p.slots.items ≡ map f (take (i + 1) old) ++ drop (i + 1) old) × (p.room ≡ c.args.self.now.room)) (search rules) (h.0, same (picked_gone P s (search rules)), h.2)
          ]
    ]

pub returns-clause-waiting : goal.returns-clause-waiting
returns-clause-waiting c =
    let P : Waiting → Bool = is_picked c.args.threads.now c.args.picked.now in
    let old : List Slot = c.args.self.now.slots.items in
    let all : c.loop-place.self.slots.items ≡ map (without_picked P) old = mapped_all (without_picked P) old _ c.loop-place.place (omega (arith, c.len-place-end.ensures, c.args.self.now.slots.ok.0, c.loop-place-test.false)) c.loop-place.invariant.1 in
    ap standing all ∙ standing_picked P old
