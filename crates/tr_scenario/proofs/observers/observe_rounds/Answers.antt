use Rattle.std.proofs.Common.{◌≤◌, ◌+◌, ◌-◌, ◌∙◌, arith, sym}
use Rattle.tr_scenario.specs.Kernels.{so_far}
use Rattle.tr_scenario.specs.Rounds.{round, rounds}
use Rattle.tr_scenario.proofs.Seen.{seen_at_end, seen_next}
use Rattle.tr_scenario.proofs.Turns.{IsNext, all_lower, no_round_more, rounds_at_end, rounds_made_next}
use Rattle.tr_scenario.proofs.observers.observe_rounds.Goals as goal

pub returns-then-are_at_end-clause-ok : goal.returns-then-are_at_end-clause-ok
returns-then-are_at_end-clause-ok g c =
    let none = rounds_at_end (c.args.turns - c.loop.counter) (so_far c.loop.kernel) c.loop.players (sym c.are_at_end.ensures ∙ c.if-are_at_end.true) in
    seen_at_end _ _ _ _ _ _ (rw none at c.loop.invariant.seen)

pub observe_round-requires : goal.observe_round-requires
observe_round-requires g c =
    let few : c.loop.counter ≤ 4294967295 = omega (arith, c.loop-test.true, c.ranges.turns.fits) in
    all_lower c.loop.counter 4294967295 c.loop.players few c.loop.invariant.low

pub loop-preserved : goal.loop-preserved
loop-preserved g c =
    let k = c.loop.kernel in
    let k_next = c.observe_round.new.kernel in
    let ps = c.loop.players in
    let ps_next = c.observe_round.new.players in
    let o = c.in_ok-observe_round.ensures.ok in
    let n : IsNext k k_next ps ps_next = record { makes = o.makes; players = c.in_ok-observe_round.ensures.players } in
    let seen = rw (rounds_made_next c.args.turns c.loop.counter k k_next ps ps_next c.loop-test.true n) at c.loop.invariant.seen in
    record {
      seen = seen_next _ _ _ _ _ _ _ _ (round (so_far k) ps).calls (rounds (c.args.turns - (c.loop.counter + 1)) (so_far k_next) ps_next).calls seen o;
      low = c.in_ok-observe_round.ensures.low c.loop.counter c.loop.invariant.low;
    }

pub returns-clause-ok : goal.returns-clause-ok
returns-clause-ok g c =
    let none = no_round_more c.args.turns c.loop.counter (so_far c.loop.kernel) c.loop.players c.loop-test.false in
    seen_at_end _ _ _ _ _ _ (rw none at c.loop.invariant.seen)
