use Rattle.std.proofs.Common.{◌++◌, drop}
use Rattle.tr_scenario.specs.Kernels.{so_far}
use Rattle.tr_scenario.specs.Rounds.{round}
use Rattle.tr_scenario.specs.RunTexts.{calls_text}
use Rattle.tr_scenario.proofs.Left.{IsLeft}
use Rattle.tr_scenario.proofs.Turns.{IsRound}
use Rattle.tr_scenario.proofs.rounds.fill_round.Given as goal

abbrev pub invariant-loop-player : goal.invariant-loop-player
invariant-loop-player g l =
    let all = (round (so_far l.fn.kernel) l.fn.players).calls in
    let rest = (round (so_far l.kernel) (drop l.player-index l.fn.players)).calls in
    let text = l.fn.page ++ calls_text g.T.Telling.text (so_far l.fn.kernel) all in
    record {
      left : IsLeft g.T.Telling.text l.fn.kernel all (g.W.Sink.taken l.fn.writer) text (g.W.Sink.failures l.fn.writer) l.kernel rest (g.W.Sink.taken l.writer) l.page (g.W.Sink.failures l.writer);
      round : IsRound l.fn.kernel l.fn.players l.kernel l.players l.player-index;
    }
