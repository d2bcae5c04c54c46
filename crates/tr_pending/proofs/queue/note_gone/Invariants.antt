use Rattle.std.proofs.Common.{◌≡◌, ◌≤◌, ◌+◌, ◌++◌, length, map, take}
use Rattle.tr_pending.specs.Waiting.{flushed_by}
use Rattle.tr_pending.proofs.queue.note_gone.Given as goal

abbrev pub invariant-loop-i : goal.invariant-loop-i
invariant-loop-i l = record {
  room : l.gone.len + length l.items ≤ l.gone.cap + l.i-index;
  capacity : l.gone.cap ≡ l.fn.gone.cap;
  count : l.count ≡ length (flushed_by l.set (take l.i-index l.items));
  named : l.gone.items ≡ l.fn.gone.items ++ map (λ i. i.n) (flushed_by l.set (take l.i-index l.items));
}
