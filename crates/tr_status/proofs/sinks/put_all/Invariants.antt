use Rattle.std.proofs.Common.{◌≡◌, ◌++◌, ◌≤◌, length}
use Rattle.tr_status.proofs.sinks.put_all.Given as goal

abbrev pub invariant-all : goal.invariant-all
invariant-all g l = record {
  left : g.K.Sink.taken l.sink ++ l.rest ≡ g.K.Sink.taken l.fn.sink ++ l.bytes;
  shorter : length l.rest ≤ length l.bytes;
  none : g.K.Sink.failures l.sink ≡ g.K.Sink.failures l.fn.sink;
}

abbrev pub decreases-all : goal.decreases-all
decreases-all g l = length l.rest
