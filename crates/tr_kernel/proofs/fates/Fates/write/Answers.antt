use Rattle.std.proofs.Common.{◌-◌, ◌∙◌, ap, sym, arith, refl}
use Rattle.tr_model.specs.declared.fates.Fate.TheVariants.{Pending, Merged, Delivered, Suppressed, Flushed}
use Rattle.tr_model.specs.Journals.{same_fate}
use Rattle.tr_kernel.specs.Private.{counted_under}
use Rattle.tr_kernel.proofs.Noted.{noted_closed, noted_none, noted_open, noted_past}
use Rattle.tr_kernel.proofs.Tallied.{counts_set, one_more}
use Rattle.tr_kernel.proofs.fates.Fates.write.Goals as goal
use Rattle.tr_kernel.proofs.fates.Fates.write.Goals.{else-place-ge1-via-then-place-ge1+then-place-len+else-same_fate, else-place-ge1-via-then-place-ge1+else-place-len, else-place-ge1-via-else-place-ge1}

pub add-requires-clause-merged : goal.add-requires-clause-merged
add-requires-clause-merged c =
    omega (
      arith,
      ap (λ n. n.merged) c.self.invariant,
      one_more Merged c.self.inside.list.items (c.args.ending.now.number - 1) c.index.result.now refl refl (omega (arith, c.if-place-ge1.true, c.if-place-len.true)) (ap (same_fate Pending) (sym c.index.ensures) ∙ sym c.same_fate.ensures ∙ c.if-same_fate.true),
    )

pub add-requires-clause-delivered : goal.add-requires-clause-delivered
add-requires-clause-delivered c =
    omega (
      arith,
      ap (λ n. n.delivered) c.self.invariant,
      one_more Delivered c.self.inside.list.items (c.args.ending.now.number - 1) c.index.result.now refl refl (omega (arith, c.if-place-ge1.true, c.if-place-len.true)) (ap (same_fate Pending) (sym c.index.ensures) ∙ sym c.same_fate.ensures ∙ c.if-same_fate.true),
    )

pub add-requires-clause-suppressed : goal.add-requires-clause-suppressed
add-requires-clause-suppressed c =
    omega (
      arith,
      ap (λ n. n.suppressed) c.self.invariant,
      one_more Suppressed c.self.inside.list.items (c.args.ending.now.number - 1) c.index.result.now refl refl (omega (arith, c.if-place-ge1.true, c.if-place-len.true)) (ap (same_fate Pending) (sym c.index.ensures) ∙ sym c.same_fate.ensures ∙ c.if-same_fate.true),
    )

pub add-requires-clause-flushed : goal.add-requires-clause-flushed
add-requires-clause-flushed c =
    omega (
      arith,
      ap (λ n. n.flushed) c.self.invariant,
      one_more Flushed c.self.inside.list.items (c.args.ending.now.number - 1) c.index.result.now refl refl (omega (arith, c.if-place-ge1.true, c.if-place-len.true)) (ap (same_fate Pending) (sym c.index.ensures) ∙ sym c.same_fate.ensures ∙ c.if-same_fate.true),
    )

pub invariant_of-self : goal.invariant_of-self
invariant_of-self c =
    let fs = c.self.inside.list.items in
    let i = c.args.ending.now.number - 1 in
    c.add.ensures
    ∙ ap (counted_under c.args.ending.now.fate) c.self.invariant
    ∙ counts_set c.args.ending.now.fate fs i c.index.result.now (omega (arith, c.if-place-ge1.true, c.if-place-len.true)) (ap (same_fate Pending) (sym c.index.ensures) ∙ sym c.same_fate.ensures ∙ c.if-same_fate.true)

pub returns-then-same_fate : goal.returns-then-same_fate
returns-then-same_fate c =
    rw (← c.self.view_is)
    (noted_open 1 c.args.ending.now c.self.inside.list.items (c.args.ending.now.number - 1) c.index.result.now (omega (arith, c.if-place-ge1.true)) (omega (arith, c.if-place-len.true, c.if-place-ge1.true)) (ap (same_fate Pending) (sym c.index.ensures) ∙ sym c.same_fate.ensures ∙ c.if-same_fate.true))

pub returns-else-place-ge1 : goal.returns-else-place-ge1
returns-else-place-ge1 c =
    let fs = c.self.inside.list.items in
    rw (← c.self.view_is)
    (elim c.else-place-ge1.branch [
      | else-place-ge1-via-then-place-ge1+then-place-len+else-same_fate w ↦
          noted_closed 1 c.args.ending.now fs (c.args.ending.now.number - 1) w.index.result.now (omega (arith, w.if-place-ge1.true)) (omega (arith, w.if-place-len.true, w.if-place-ge1.true)) (ap (same_fate Pending) (sym w.index.ensures) ∙ sym w.same_fate.ensures ∙ w.if-same_fate.false)
      | else-place-ge1-via-then-place-ge1+else-place-len w ↦ noted_past 1 c.args.ending.now fs (omega (arith, w.if-place-len.false))
      | else-place-ge1-via-else-place-ge1 w ↦ noted_none c.args.ending.now fs (omega (arith, w.if-place-ge1.false))
    ])
