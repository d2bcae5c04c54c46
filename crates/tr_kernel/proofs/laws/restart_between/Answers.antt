use Rattle.std.proofs.Common.{◌∙◌, sym, arith, true≢false}
use Rattle.tr_kernel.proofs.Restarted.{no_stop_first, no_stop_second, restart_between_them, some_restart, stop_bounds, two_stops_same}
use Rattle.tr_kernel.proofs.laws.restart_between.Goals as goal
use Rattle.tr_kernel.proofs.laws.restart_between.Goals.{else-i-j-via-then-i-j+else-first-second, else-i-j-via-else-i-j}

pub returns-in_default : goal.returns-in_default
returns-in_default c = record {
  exactly = ((λ q. absurd (true≢false (sym q))), λ w. absurd (no_stop_first _ _ c.args.i c.args.j c.fact_at.result c.fact_at.ensures.fact c.in_default.not-Stop w));
  between = tt;
}

pub returns-in_default-fact_at : goal.returns-in_default-fact_at
returns-in_default-fact_at c = record {
  exactly = ((λ q. absurd (true≢false (sym q))), λ w. absurd (no_stop_second _ _ c.args.i c.args.j c.fact_at-2.result c.fact_at-2.ensures.fact c.in_default-fact_at.not-Stop w));
  between = tt;
}

pub first_restart-requires : goal.first_restart-requires
first_restart-requires c =
    let m = sym c.fact_at.ensures.fact ∙ c.in-Stop.is in
    let n = sym c.fact_at-2.ensures.fact ∙ c.in-Stop-fact_at.is in
    let b = stop_bounds c.args.kernel.now c.fact_at.ensures.history c.args.i c.args.j c.in-Stop.first c.in-Stop-fact_at.second m n in
    (b.0, c.if-i-j.true, b.1)

pub returns-then-first-second-clause-exactly : goal.returns-then-first-second-clause-exactly
returns-then-first-second-clause-exactly c =
    let m = sym c.fact_at.ensures.fact ∙ c.in-Stop.is in
    let n = sym c.fact_at-2.ensures.fact ∙ c.in-Stop-fact_at.is in
    some_restart c.args.kernel.now c.fact_at.ensures.history c.args.i c.args.j c.in-Stop.first c.in-Stop-fact_at.second c.first_restart.result m n c.if-i-j.true c.if-first-second.true c.first_restart.ensures.none

pub returns-then-first-second-clause-between : goal.returns-then-first-second-clause-between
returns-then-first-second-clause-between c =
    restart_between_them c.args.kernel.now c.args.i c.args.j c.in-Stop.first c.first_restart.result (sym c.fact_at.ensures.fact ∙ c.in-Stop.is) c.first_restart.ensures.found

pub returns-else-i-j-clause-exactly : goal.returns-else-i-j-clause-exactly
returns-else-i-j-clause-exactly c =
    let m = sym c.fact_at.ensures.fact ∙ c.in-Stop.is in
    let n = sym c.fact_at-2.ensures.fact ∙ c.in-Stop-fact_at.is in
    let same = two_stops_same _ _ c.args.i c.args.j c.in-Stop.first c.in-Stop-fact_at.second m n in (
      (λ q. absurd (true≢false (sym q))),
      λ w. elim c.else-i-j.branch [
        | else-i-j-via-then-i-j+else-first-second x ↦ absurd (x.if-first-second.false (same w).1)
        | else-i-j-via-else-i-j x ↦ (let l = (same w).0 in absurd (omega (arith, x.if-i-j.false, l)))
      ],
    )
