use Rattle.std.proofs.Common.{arith, ◌∙◌}
use Rattle.tr_hub.proofs.Keeping.{accepted_booked, entries_booked, kept_after, start_kept}
use Rattle.tr_hub.specs.Kept.{HeldState, IsKept}
use Rattle.tr_hub.proofs.held.Held.step.Goals as goal

pub invariant_of-self-2 : goal.invariant_of-self-2
invariant_of-self-2 g c =
    let h : HeldState = record { kernel = c.self.inside.kernel; asked = c.self.inside.asked.items } in
    let actor = c.actor-actor.result in
    let event = c.args.event in
    let answer = c.call-answer.result in
    let new = c.call-answer.new.self in
    let e = c.call-answer.ensures in
    let i = c.self.invariant in
    let entries = entries_booked h.kernel actor event answer new e.entered e.read e.unchanged in
    let accepted = accepted_booked h.kernel actor event answer new e.receipt e.read e.unchanged in
    rw (c.keep.ensures, c.reserve.ensures.items, c.position-position.ensures)
    (kept_after h actor event answer new i.0 e.history e.entered e.room e.read e.refused e.unchanged, omega (arith, c.add-2.ensures.entries), omega (arith, c.add-2.ensures.accepted), i.3, i.4, i.5, i.6, start_kept h.kernel actor event answer new e.entered e.read e.unchanged ∙ i.7)

pub returns-clause-kept : goal.returns-clause-kept
returns-clause-kept g c =
    let h : HeldState = record { kernel = c.self.inside.kernel; asked = c.self.inside.asked.items } in
    let e = c.call-answer.ensures in
    let kept : IsKept (record { kernel = c.call-answer.new.self; asked = c.keep.new.asked.items }) =
    rw (c.keep.ensures, c.reserve.ensures.items, c.position-position.ensures)
    (kept_after h c.actor-actor.result c.args.event c.call-answer.result c.call-answer.new.self c.self.invariant.0 e.history e.entered e.room e.read e.refused e.unchanged) in
    kept
