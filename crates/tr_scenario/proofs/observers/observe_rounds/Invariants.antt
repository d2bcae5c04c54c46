use Rattle.std.proofs.Common.{◌-◌}
use Rattle.tr_scenario.specs.Kernels.{so_far}
use Rattle.tr_scenario.specs.Private.{AreLow}
use Rattle.tr_scenario.specs.Rounds.{rounds}
use Rattle.tr_scenario.proofs.Seen.{IsSeen}
use Rattle.tr_scenario.proofs.observers.observe_rounds.Given as goal

abbrev pub invariant-loop : goal.invariant-loop
invariant-loop g l =
    let all = rounds l.fn.turns (so_far l.fn.kernel) l.fn.players in
    let rest = rounds (l.fn.turns - l.counter) (so_far l.kernel) l.players in
    record {
      seen : IsSeen g.O.Observer.knows l.fn.kernel l.fn.observer all.calls l.kernel l.observer rest.calls;
      low : AreLow l.counter l.players;
    }
