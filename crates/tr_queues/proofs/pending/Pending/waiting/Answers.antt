use Rattle.std.proofs.Common.{◌≡◌, ◌∙◌, ap, sym, refl, rules, Some, true, false, get_or, option_copied}
use Rattle.tr_queues.specs.declared.slots.Slot.{Slot}
use Rattle.tr_queues.proofs.Standing.{at_place, none_standing}
use Rattle.tr_queues.proofs.pending.Pending.waiting.Goals as goal

pub returns-in_err-place : goal.returns-in_err-place
returns-in_err-place c = record { waiting = ap option_copied c.from_residual.ensures ∙ sym (none_standing c.args.self.now.slots.items c.args.n (search rules)) }

pub returns-then-slot : goal.returns-then-slot
returns-then-slot c =
    let ss = c.args.self.now.slots.items in
    let s : Slot = c.index-slot.result.now in
    let i = c.in_ok-place.place in
    let gone : (get_or ss i s).gone ≡ true = ap (λ (t : Slot). t.gone) (sym c.index-slot.ensures) ∙ c.if-slot.true in
    record { waiting = sym (at_place ss s c.args.n i c.requires.sorted (search rules) (search rules) ∙ rw gone refl) }

pub returns-else-slot : goal.returns-else-slot
returns-else-slot c =
    let ss = c.args.self.now.slots.items in
    let s : Slot = c.index-slot.result.now in
    let i = c.in_ok-place.place in
    let gone : (get_or ss i s).gone ≡ false = ap (λ (t : Slot). t.gone) (sym c.index-slot.ensures) ∙ c.if-slot.false in
    record { waiting = ap (λ (t : Slot). Some t.waiting) c.index-slot.ensures ∙ sym (at_place ss s c.args.n i c.requires.sorted (search rules) (search rules) ∙ rw gone refl) }
