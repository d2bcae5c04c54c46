use Rattle.std.proofs.Common.{◌≤◌, ◌+◌, ◌-◌, ◌∙◌, ap, arith, sym}
use Rattle.std.proofs.lemmas.Result.{err_from_is_err_and}
use Rattle.tr_scenario.specs.Kernels.{so_far}
use Rattle.tr_scenario.specs.Rounds.{Played, round, rounds}
use Rattle.tr_scenario.specs.RunTexts.{state_after}
use Rattle.tr_scenario.proofs.Left.{left_at_end, left_halted, left_next, made_at_end}
use Rattle.tr_scenario.proofs.Turns.{IsNext, all_lower, no_round_more, players_next, rounds_at_end, rounds_from, rounds_made_next}
use Rattle.tr_scenario.proofs.rounds.fill_rounds.Goals as goal

pub returns-then-are_at_end-clause-prints : goal.returns-then-are_at_end-clause-prints
returns-then-are_at_end-clause-prints g c =
    let none = rounds_at_end (c.args.turns - c.loop.counter) (so_far c.loop.kernel) c.loop.players (sym c.are_at_end.ensures ∙ c.if-are_at_end.true) in
    left_at_end _ _ _ _ _ _ _ _ _ _ (rw none at c.loop.invariant.left)

pub returns-then-are_at_end-clause-makes : goal.returns-then-are_at_end-clause-makes
returns-then-are_at_end-clause-makes g c =
    let none = rounds_at_end (c.args.turns - c.loop.counter) (so_far c.loop.kernel) c.loop.players (sym c.are_at_end.ensures ∙ c.if-are_at_end.true) in
    made_at_end _ _ _ _ _ _ _ _ _ _ (rw none at c.loop.invariant.left)

pub returns-then-are_at_end-clause-players : goal.returns-then-are_at_end-clause-players
returns-then-are_at_end-clause-players g c =
    let none = rounds_at_end (c.args.turns - c.loop.counter) (so_far c.loop.kernel) c.loop.players (sym c.are_at_end.ensures ∙ c.if-are_at_end.true) in
    sym (c.loop.invariant.players ∙ ap (λ (x : Played). x.players) none)

pub fill_round-requires-clause-low : goal.fill_round-requires-clause-low
fill_round-requires-clause-low g c =
    let few : c.loop.counter ≤ 4294967295 = omega (arith, c.loop-test.true, c.ranges.turns.fits) in
    all_lower c.loop.counter 4294967295 c.loop.players few c.loop.invariant.low

pub returns-in_err-fill_round-clause-prints : goal.returns-in_err-fill_round-clause-prints
returns-in_err-fill_round-clause-prints g c =
    let p = err_from_is_err_and c.from_residual.result c.from_residual.ensures.1 in
    let s = so_far c.loop.kernel in
    let one = round s c.loop.players in
    let left = rw (rounds_from c.args.turns c.loop.counter s c.loop.players c.loop-test.true) at c.loop.invariant.left in
    rw (p.1, p.2) (left_halted _ _ _ _ one.calls (rounds (c.args.turns - (c.loop.counter + 1)) (state_after s one.calls) one.players).calls _ _ _ _ _ _ _ _ _ left c.in_err-fill_round.ensures.prints)

pub loop-preserved : goal.loop-preserved
loop-preserved g c =
    let k = c.loop.kernel in
    let k_next = c.fill_round.new.kernel in
    let ps = c.loop.players in
    let ps_next = c.fill_round.new.players in
    let n : IsNext k k_next ps ps_next = record { makes = c.in_ok-fill_round.ensures.makes; players = c.in_ok-fill_round.ensures.players } in
    let left = rw (rounds_made_next c.args.turns c.loop.counter k k_next ps ps_next c.loop-test.true n) at c.loop.invariant.left in
    let p = c.in_ok-fill_round.ensures.prints in
    record {
      left = left_next _ _ _ _ _ (round (so_far k) ps).calls (rounds (c.args.turns - (c.loop.counter + 1)) (so_far k_next) ps_next).calls _ _ _ _ _ _ _ _ _ left n.makes p.0 p.1 p.2;
      players = c.loop.invariant.players ∙ players_next c.args.turns c.loop.counter k k_next ps ps_next c.loop-test.true n;
      low = c.in_ok-fill_round.ensures.low c.loop.counter c.loop.invariant.low;
    }

pub returns-clause-prints : goal.returns-clause-prints
returns-clause-prints g c =
    let none = no_round_more c.args.turns c.loop.counter (so_far c.loop.kernel) c.loop.players c.loop-test.false in
    left_at_end _ _ _ _ _ _ _ _ _ _ (rw none at c.loop.invariant.left)

pub returns-clause-makes : goal.returns-clause-makes
returns-clause-makes g c =
    let none = no_round_more c.args.turns c.loop.counter (so_far c.loop.kernel) c.loop.players c.loop-test.false in
    made_at_end _ _ _ _ _ _ _ _ _ _ (rw none at c.loop.invariant.left)

pub returns-clause-players : goal.returns-clause-players
returns-clause-players g c =
    let none = no_round_more c.args.turns c.loop.counter (so_far c.loop.kernel) c.loop.players c.loop-test.false in
    sym (c.loop.invariant.players ∙ ap (λ (x : Played). x.players) none)
