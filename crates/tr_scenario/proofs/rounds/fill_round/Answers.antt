use Rattle.std.proofs.Common.{◌+◌, drop, drop_of_length-le, get_or}
use Rattle.std.proofs.lemmas.Result.{err_from_is_err_and}
use Rattle.tr_scenario.specs.Kernels.{so_far}
use Rattle.tr_scenario.specs.Rounds.{round, turn}
use Rattle.tr_scenario.specs.RunTexts.{state_after}
use Rattle.tr_scenario.proofs.Left.{left_at_end, left_at_start, left_halted, left_next, made_at_end}
use Rattle.tr_scenario.proofs.Turns.{all_played, low_at, none_played, one_played, player_at, rest_calls, rest_made}
use Rattle.tr_scenario.proofs.rounds.fill_round.Goals as goal

pub loop-player-init : goal.loop-player-init
loop-player-init g c = record { left = left_at_start _ _ _ _ _ _; round = none_played _ _ }

pub fill_turn-requires-clause-low : goal.fill_turn-requires-clause-low
fill_turn-requires-clause-low g c =
    let r = c.loop-player.invariant.round in
    let all = c.args.players.now in
    let i = c.loop-player.player-index in
    let d = c.player-item.result in
    let h = c.loop-player-test.true in
    rw (player_at _ _ all c.loop-player.players i d r h) (low_at 4294967295 all i d h c.requires.low)

pub returns-in_err-fill_turn-clause-prints : goal.returns-in_err-fill_turn-clause-prints
returns-in_err-fill_turn-clause-prints g c =
    let p = err_from_is_err_and c.from_residual.result c.from_residual.ensures.1 in
    let r = c.loop-player.invariant.round in
    let all = c.args.players.now in
    let i = c.loop-player.player-index in
    let d = c.player-item.result in
    let s = so_far c.loop-player.kernel in
    let h = c.loop-player-test.true in
    let one = turn s (get_or all i d) in
    let left = rw (rest_calls s all i d h) at c.loop-player.invariant.left in
    let halted = rw (player_at _ _ all c.loop-player.players i d r h) at c.in_err-fill_turn.ensures.prints in
    rw (p.1, p.2) (left_halted _ _ _ _ one.calls (round (state_after s one.calls) (drop (i + 1) all)).calls _ _ _ _ _ _ _ _ _ left halted)

pub loop-player-preserved : goal.loop-player-preserved
loop-player-preserved g c =
    let r = c.loop-player.invariant.round in
    let all = c.args.players.now in
    let i = c.loop-player.player-index in
    let d = c.player-item.result in
    let k = c.loop-player.kernel in
    let k_next = c.fill_turn.new.kernel in
    let h = c.loop-player-test.true in
    let at = player_at _ _ all c.loop-player.players i d r h in
    let p = rw at at c.in_ok-fill_turn.ensures.prints in
    let m = rw at at c.in_ok-fill_turn.ensures.makes in
    let left = rw (rest_made k k_next all i d h m) at c.loop-player.invariant.left in
    record {
      left = left_next _ _ _ _ _ (turn (so_far k) (get_or all i d)).calls (round (so_far k_next) (drop (i + 1) all)).calls _ _ _ _ _ _ _ _ _ left m p.0 p.1 p.2;
      round = one_played _ k k_next all c.loop-player.players i d c.fill_turn.new.player r h m (rw at at c.in_ok-fill_turn.ensures.player) (rw at at c.in_ok-fill_turn.ensures.low);
    }

pub returns-clause-prints : goal.returns-clause-prints
returns-clause-prints g c = left_at_end _ _ _ _ _ _ _ _ _ _ (rw (drop_of_length-le c.args.players.now c.loop-player-test.false) at c.loop-player.invariant.left)

pub returns-clause-makes : goal.returns-clause-makes
returns-clause-makes g c = made_at_end _ _ _ _ _ _ _ _ _ _ (rw (drop_of_length-le c.args.players.now c.loop-player-test.false) at c.loop-player.invariant.left)

pub returns-clause-low : goal.returns-clause-low
returns-clause-low g c = (all_played _ _ c.args.players.now c.loop-player.players c.loop-player.player-index c.loop-player.invariant.round c.loop-player-test.false).1
