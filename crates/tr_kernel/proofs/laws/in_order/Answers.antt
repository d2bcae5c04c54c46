use Rattle.std.proofs.Common.{◌∙◌, sym, true≢false}
use Rattle.tr_kernel.proofs.Ordered.{no_take_first, no_take_second, taken_in_order, two_by_notes, two_takes_same}
use Rattle.tr_kernel.proofs.laws.in_order.Goals as goal

pub returns-in_default : goal.returns-in_default
returns-in_default c = record {
  exactly = ((λ q. absurd (true≢false (sym q))), λ w. absurd (no_take_first _ _ c.args.i c.args.j c.fact_at.result c.fact_at.ensures.fact c.in_default.not-Take w));
  order = λ q. absurd (true≢false (sym q));
}

pub returns-in_default-fact_at : goal.returns-in_default-fact_at
returns-in_default-fact_at c = record {
  exactly = ((λ q. absurd (true≢false (sym q))), λ w. absurd (no_take_second _ _ c.args.i c.args.j c.fact_at-2.result c.fact_at-2.ensures.fact c.in_default-fact_at.not-Take w));
  order = λ q. absurd (true≢false (sym q));
}

pub returns-then-i-j-clause-exactly : goal.returns-then-i-j-clause-exactly
returns-then-i-j-clause-exactly c =
    let m = sym c.fact_at.ensures.fact ∙ c.in-Take.is in
    let n = sym c.fact_at-2.ensures.fact ∙ c.in-Take-fact_at.is in (
      (λ q. two_by_notes _ _ c.args.i c.args.j c.in-Take.first c.in-Take-fact_at.second m n c.if-i-j.true (c.is_same_queue.ensures.0 q)),
      λ w. c.is_same_queue.ensures.1 (two_takes_same _ _ c.args.i c.args.j c.in-Take.first c.in-Take-fact_at.second m n w),
    )

pub returns-then-i-j-clause-order : goal.returns-then-i-j-clause-order
returns-then-i-j-clause-order c =
    let m = sym c.fact_at.ensures.fact ∙ c.in-Take.is in
    let n = sym c.fact_at-2.ensures.fact ∙ c.in-Take-fact_at.is in
    λ q. taken_in_order c.args.kernel.now c.fact_at.ensures.history c.args.i c.args.j (two_by_notes _ _ c.args.i c.args.j c.in-Take.first c.in-Take-fact_at.second m n c.if-i-j.true (c.is_same_queue.ensures.0 q))
