use Rattle.std.proofs.Common.{◌≡◌, ◌++◌, ◌≤◌, length, drop}
use Rattle.tr_scenario.specs.RunTexts.{statuses}
use Rattle.tr_scenario.proofs.printing.fill_statuses.Given as goal

abbrev pub invariant-loop-thread : goal.invariant-loop-thread
invariant-loop-thread g l = record {
  left : g.W.Sink.taken l.writer ++ (l.page ++ statuses l.table.table (drop l.thread-index l.threads)) ≡ g.W.Sink.taken l.fn.writer ++ (l.fn.page ++ statuses l.table.table l.threads);
  shorter : length (l.page ++ statuses l.table.table (drop l.thread-index l.threads)) ≤ length (l.fn.page ++ statuses l.table.table l.threads);
  same : g.W.Sink.failures l.writer ≡ g.W.Sink.failures l.fn.writer;
}
