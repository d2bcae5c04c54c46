use Rattle.std.proofs.Common.{◌∙◌, ℕ, List, map, ap, arith, sym}
use Rattle.tr_sigset.specs.declared.sets.SigSet.{SigSet}
use Rattle.tr_starts.specs.Ascending.{last_ascending}
use Rattle.tr_starts.proofs.Ascending.{distinct_at_end, next_group}
use Rattle.tr_starts.proofs.good_starts.have_ascending_ids.Goals as goal

pub loop-group-preserved : goal.loop-group-preserved
loop-group-preserved c =
    let last = c.loop-group.last in
    next_group c.args.groups.now c.loop-group.group-index last c.in-Some.id c.group-item.result c.group-item.is (omega (arith, c.loop-group-test.true))
    (ap (λ (ts : List (ℕ × SigSet)). last_ascending last (map (λ t. t.0) ts)) (sym c.as_slice.ensures) ∙ (sym c.last_ascending.ensures ∙ c.in-Some.is))
    ∙ c.loop-group.invariant

pub returns : goal.returns
returns c = λ e. distinct_at_end c.args.groups.now c.loop-group.group-index c.loop-group.last (omega (arith, c.loop-group-test.false)) c.loop-group.invariant
