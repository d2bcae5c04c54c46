use Rattle.std.proofs.Common.{◌≡◌, ◌++◌, ◌≤◌, length, drop}
use Rattle.tr_status.specs.Writing.{joined}
use Rattle.tr_status.proofs.sinks.put_pieces.Given as goal

abbrev pub invariant-loop-piece : goal.invariant-loop-piece
invariant-loop-piece g l = record {
  left : g.K.Sink.taken l.sink ++ joined (drop l.piece-index l.pieces) ≡ g.K.Sink.taken l.fn.sink ++ joined l.pieces;
  shorter : length (joined (drop l.piece-index l.pieces)) ≤ length (joined l.pieces);
  none : g.K.Sink.failures l.sink ≡ g.K.Sink.failures l.fn.sink;
}
