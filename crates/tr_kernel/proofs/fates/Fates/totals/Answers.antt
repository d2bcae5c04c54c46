use Rattle.std.proofs.Common.{◌≡◌, ℕ, List, ◌+◌, ◌-◌, ap, arith, length, refl}
use Rattle.tr_model.specs.declared.fates.Fate.{Fate}
use Rattle.tr_model.specs.declared.fates.Fate.TheVariants.{Pending, Merged, Delivered, Suppressed, Flushed}
use Rattle.tr_model.specs.declared.fates.Totals.{Totals}
use Rattle.tr_kernel.specs.declared.fates.EndedCounts.{EndedCounts}
use Rattle.tr_kernel.specs.Private.{count_of, counts_of, tally}
use Rattle.tr_kernel.proofs.Tallied.{all_counted}
use Rattle.tr_kernel.proofs.fates.Fates.totals.Goals as goal

pub overflow_add-ended : goal.overflow_add-ended
overflow_add-ended c =
    omega (arith, ap (λ n. n.merged) c.self.invariant, ap (λ n. n.delivered) c.self.invariant, all_counted c.self.inside.list.items, c.len-accepted.ensures)

pub overflow_add-ended-2 : goal.overflow_add-ended-2
overflow_add-ended-2 c =
    omega (arith, ap (λ n. n.merged) c.self.invariant, ap (λ n. n.delivered) c.self.invariant, ap (λ n. n.suppressed) c.self.invariant, all_counted c.self.inside.list.items, c.len-accepted.ensures)

pub overflow_add-ended-3 : goal.overflow_add-ended-3
overflow_add-ended-3 c =
    omega (arith, ap (λ n. n.merged) c.self.invariant, ap (λ n. n.delivered) c.self.invariant, ap (λ n. n.suppressed) c.self.invariant, ap (λ n. n.flushed) c.self.invariant, all_counted c.self.inside.list.items, c.len-accepted.ensures)

pub overflow_sub-result : goal.overflow_sub-result
overflow_sub-result c =
    omega (arith, ap (λ n. n.merged) c.self.invariant, ap (λ n. n.delivered) c.self.invariant, ap (λ n. n.suppressed) c.self.invariant, ap (λ n. n.flushed) c.self.invariant, all_counted c.self.inside.list.items, c.len-accepted.ensures)

pub returns : goal.returns
returns c =
    rw (← c.self.view_is) (whole c.len-accepted.result c.self.inside.list.items c.self.inside.counts (omega (arith, c.len-accepted.ensures, c.self.inside.list.ok.0)) c.self.invariant)
  where
    left : (n : ℕ) (fs : List Fate) → n ≡ length fs → n - (count_of Merged fs + count_of Delivered fs + count_of Suppressed fs + count_of Flushed fs) ≡ count_of Pending fs
    left n fs e = omega (arith, e, all_counted fs)

    whole : (n : ℕ) (fs : List Fate) (k : EndedCounts) → n ≡ length fs → k ≡ counts_of fs
        → ◌≡◌ {A = Totals} record { accepted = n; pending = n - (k.merged + k.delivered + k.suppressed + k.flushed); merged = k.merged; delivered = k.delivered; suppressed = k.suppressed; flushed = k.flushed } (tally fs (length fs))
    whole n fs k e h = rw (h, left n fs e, e) refl
