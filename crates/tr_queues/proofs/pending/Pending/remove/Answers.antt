use Rattle.std.proofs.Common.{◌≡◌, ◌∙◌, List, Some, true, false, get_or, ap, refl, rules, sym}
use Rattle.tr_queues.specs.declared.slots.Slot.{Slot}
use Rattle.tr_queues.specs.Slots.{standing}
use Rattle.tr_queues.proofs.Standing.{at_place, instance_waiting, none_standing, removed_at, same_default, without_other}
use Rattle.tr_queues.proofs.pending.Pending.remove.Goals as goal

pub returns-in_err-place-clause-taken : goal.returns-in_err-place-clause-taken
returns-in_err-place-clause-taken c =
    let ss : List Slot = c.args.self.now.slots.items in
    c.from_residual.ensures ∙ sym (instance_waiting (standing ss) c.args.n ∙ rw (none_standing ss c.args.n (search rules)) refl)

pub returns-in_err-place-clause-waiting : goal.returns-in_err-place-clause-waiting
returns-in_err-place-clause-waiting c =
    let ss : List Slot = c.args.self.now.slots.items in
    without_other (standing ss) c.args.n (none_standing ss c.args.n (search rules))

pub returns-then-index-clause-taken : goal.returns-then-index-clause-taken
returns-then-index-clause-taken c =
    let ss : List Slot = c.args.self.now.slots.items in
    let s : Slot = c.index.result.now in
    let i = c.in_ok-place.place in
    let gone : (get_or ss i s).gone ≡ true = search rules in
    sym (instance_waiting (standing ss) c.args.n ∙ rw (at_place ss s c.args.n i c.requires.kept.sorted (search rules) (search rules), gone) refl)

pub returns-then-index-clause-waiting : goal.returns-then-index-clause-waiting
returns-then-index-clause-waiting c =
    let ss : List Slot = c.args.self.now.slots.items in
    let s : Slot = c.index.result.now in
    let i = c.in_ok-place.place in
    let gone : (get_or ss i s).gone ≡ true = search rules in
    without_other (standing ss) c.args.n (at_place ss s c.args.n i c.requires.kept.sorted (search rules) (search rules) ∙ rw gone refl)

pub returns-clause-taken : goal.returns-clause-taken
returns-clause-taken c =
    let ss : List Slot = c.args.self.now.slots.items in
    let s : Slot = c.index-2.result.now in
    let i = c.in_ok-place.place in
    let one : c.index.result.now ≡ s = c.index.ensures ∙ (same_default ss i c.index.result.now s (search rules) ∙ sym c.index-2.ensures) in
    let waits : (get_or ss i s).gone ≡ false = ap (λ (t : Slot). t.gone) (sym c.index-2.ensures ∙ sym one) ∙ c.if-index.false in
    ap (λ (t : Slot). Some t.waiting.instance) c.index-2.ensures
    ∙ sym (instance_waiting (standing ss) c.args.n ∙ rw (at_place ss s c.args.n i c.requires.kept.sorted (search rules) (search rules), waits) refl)

pub returns-clause-waiting : goal.returns-clause-waiting
returns-clause-waiting c =
    let ss : List Slot = c.args.self.now.slots.items in
    let s : Slot = c.index.result.now in
    let i = c.in_ok-place.place in
    ap standing (c.remove_at.ensures.slots s) ∙ removed_at s ss c.args.n i c.requires.kept.sorted (search rules) (search rules) (search rules)
