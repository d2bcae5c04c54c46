use Rattle.std.proofs.Common.{◌≡◌, ap, ◌∙◌, sym, ◌==◌, Some}
use Rattle.std.specs.List.{position}
use Rattle.tr_pending.specs.Waiting.{is_waiting, first_of}
use Rattle.tr_pending.proofs.Masks.{first_is, first_none, still_waits, waits_no_more}
use Rattle.tr_pending.proofs.queue.Queue.take_sig.Goals as goal

pub invariant_of-self : goal.invariant_of-self
invariant_of-self c n =
    let found : position (λ i. i.sig == c.args.signal) c.self.inside.items.items ≡ Some c.in-Some.place = ap (position (λ i. i.sig == c.args.signal)) (sym c.deref.ensures.value) ∙ sym c.in-Some.ensures in
    waits_no_more c.args.signal c.self.inside.items.items c.in-Some.place c.remove-instance.result found c.self.inside.mask _ c.self.invariant
    (ap (is_waiting c.args.signal) (sym c.remove-instance.ensures.items ∙ sym c.deref-in-Some.ensures.value) ∙ sym c.waits.ensures ∙ c.if-not-waits.true) c.without-self-inside.ensures.members n
    ∙ ap (is_waiting n) (sym c.remove-instance.ensures.items)

pub invariant_of-self-else-not-waits : goal.invariant_of-self-else-not-waits
invariant_of-self-else-not-waits c n =
    let found : position (λ i. i.sig == c.args.signal) c.self.inside.items.items ≡ Some c.in-Some.place = ap (position (λ i. i.sig == c.args.signal)) (sym c.deref.ensures.value) ∙ sym c.in-Some.ensures in
    still_waits c.args.signal c.self.inside.items.items c.in-Some.place c.remove-instance.result found c.self.inside.mask c.self.invariant
    (ap (is_waiting c.args.signal) (sym c.remove-instance.ensures.items ∙ sym c.deref-in-Some.ensures.value) ∙ sym c.waits.ensures ∙ c.if-not-waits.false) n
    ∙ ap (is_waiting n) (sym c.remove-instance.ensures.items)

pub returns-after-not-waits-clause-taken : goal.returns-after-not-waits-clause-taken
returns-after-not-waits-clause-taken c =
    let found : position (λ i. i.sig == c.args.signal) c.self.inside.items.items ≡ Some c.in-Some.place = ap (position (λ i. i.sig == c.args.signal)) (sym c.deref.ensures.value) ∙ sym c.in-Some.ensures in
    first_is c.args.signal c.self.inside.items.items c.in-Some.place c.remove-instance.result found c.remove-instance.result c.remove-instance.ensures.value
    ∙ ap (λ v. first_of c.args.signal v.waiting) c.self.view_is

pub returns-in-None-clause-taken : goal.returns-in-None-clause-taken
returns-in-None-clause-taken c =
    first_none c.args.signal c.self.inside.items.items (ap (position (λ i. i.sig == c.args.signal)) (sym c.deref.ensures.value) ∙ sym c.in-None.ensures)
    ∙ ap (λ v. first_of c.args.signal v.waiting) c.self.view_is
