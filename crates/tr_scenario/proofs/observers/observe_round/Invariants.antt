use Rattle.std.proofs.Common.{drop}
use Rattle.tr_scenario.specs.Kernels.{so_far}
use Rattle.tr_scenario.specs.Rounds.{round}
use Rattle.tr_scenario.proofs.Seen.{IsSeen}
use Rattle.tr_scenario.proofs.Turns.{IsRound}
use Rattle.tr_scenario.proofs.observers.observe_round.Given as goal

abbrev pub invariant-loop-player : goal.invariant-loop-player
invariant-loop-player g l =
    let all = (round (so_far l.fn.kernel) l.fn.players).calls in
    let rest = (round (so_far l.kernel) (drop l.player-index l.fn.players)).calls in
    record {
      seen : IsSeen g.O.Observer.knows l.fn.kernel l.fn.observer all l.kernel l.observer rest;
      round : IsRound l.fn.kernel l.fn.players l.kernel l.players l.player-index;
    }
