use Rattle.std.proofs.Common.{◌≡◌, ◌++◌, ◌-◌}
use Rattle.tr_scenario.specs.Kernels.{so_far}
use Rattle.tr_scenario.specs.Private.{AreLow}
use Rattle.tr_scenario.specs.Rounds.{rounds}
use Rattle.tr_scenario.specs.RunTexts.{calls_text}
use Rattle.tr_scenario.proofs.Left.{IsLeft}
use Rattle.tr_scenario.proofs.rounds.fill_rounds.Given as goal

abbrev pub invariant-loop : goal.invariant-loop
invariant-loop g l =
    let all = rounds l.fn.turns (so_far l.fn.kernel) l.fn.players in
    let rest = rounds (l.fn.turns - l.counter) (so_far l.kernel) l.players in
    let text = l.fn.page ++ calls_text g.T.Telling.text (so_far l.fn.kernel) all.calls in
    record {
      left : IsLeft g.T.Telling.text l.fn.kernel all.calls (g.W.Sink.taken l.fn.writer) text (g.W.Sink.failures l.fn.writer) l.kernel rest.calls (g.W.Sink.taken l.writer) l.page (g.W.Sink.failures l.writer);
      players : all.players ≡ rest.players;
      low : AreLow l.counter l.players;
    }
