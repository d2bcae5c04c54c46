use Rattle.std.proofs.Common.{◌≡◌, map, take}
use Rattle.tr_scenario.specs.Rounds.{player_of}
use Rattle.tr_scenario.proofs.rounds.players_of.Given as goal

abbrev pub invariant-loop-script : goal.invariant-loop-script
invariant-loop-script l = l.players.items ≡ map player_of (take l.script-index l.scripts)
