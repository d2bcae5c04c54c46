use Rattle.std.proofs.Common.{◌+◌, drop, drop_of_length-le, get_or}
use Rattle.tr_scenario.specs.Kernels.{so_far}
use Rattle.tr_scenario.specs.Rounds.{round, turn}
use Rattle.tr_scenario.proofs.Seen.{seen_at_end, seen_at_start, seen_next}
use Rattle.tr_scenario.proofs.Turns.{all_played, low_at, none_played, one_played, player_at, rest_made}
use Rattle.tr_scenario.proofs.observers.observe_round.Goals as goal

pub loop-player-init : goal.loop-player-init
loop-player-init g c = record { seen = seen_at_start _ _ _ _; round = none_played _ _ }

pub observe_turn-requires : goal.observe_turn-requires
observe_turn-requires g c =
    let r = c.loop-player.invariant.round in
    let all = c.args.players.now in
    let i = c.loop-player.player-index in
    let d = c.player-item.result in
    let h = c.loop-player-test.true in
    rw (player_at _ _ all c.loop-player.players i d r h) (low_at 4294967295 all i d h c.requires)

pub loop-player-preserved : goal.loop-player-preserved
loop-player-preserved g c =
    let r = c.loop-player.invariant.round in
    let all = c.args.players.now in
    let i = c.loop-player.player-index in
    let d = c.player-item.result in
    let k = c.loop-player.kernel in
    let k_next = c.observe_turn.new.kernel in
    let h = c.loop-player-test.true in
    let at = player_at _ _ all c.loop-player.players i d r h in
    let o = rw at at c.in_ok-observe_turn.ensures.ok in
    let seen = rw (rest_made k k_next all i d h o.makes) at c.loop-player.invariant.seen in
    record {
      seen = seen_next _ _ _ _ _ _ _ _ (turn (so_far k) (get_or all i d)).calls (round (so_far k_next) (drop (i + 1) all)).calls seen o;
      round = one_played _ k k_next all c.loop-player.players i d c.observe_turn.new.player r h o.makes (rw at at c.in_ok-observe_turn.ensures.player) (rw at at c.in_ok-observe_turn.ensures.low);
    }

pub returns-clause-ok : goal.returns-clause-ok
returns-clause-ok g c = seen_at_end _ _ _ _ _ _ (rw (drop_of_length-le c.args.players.now c.loop-player-test.false) at c.loop-player.invariant.seen)

pub returns-clause-low : goal.returns-clause-low
returns-clause-low g c = (all_played _ _ c.args.players.now c.loop-player.players c.loop-player.player-index c.loop-player.invariant.round c.loop-player-test.false).1
