use Rattle.std.proofs.Common.{◌≡◌, ◌++◌, drop}
use Rattle.tr_scenario.specs.Rounds.{player_lines}
use Rattle.tr_scenario.proofs.rounds.push_players.Given as goal

abbrev pub invariant-loop-player : goal.invariant-loop-player
invariant-loop-player l = l.page ++ player_lines (drop l.player-index l.players) ≡ l.fn.page ++ player_lines l.fn.players
