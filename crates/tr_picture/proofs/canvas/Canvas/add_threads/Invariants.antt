use Rattle.std.proofs.Common.{◌≡◌, drop}
use Rattle.tr_picture.specs.Drawn.{with_threads}
use Rattle.tr_picture.proofs.canvas.Canvas.add_threads.Given as goal

abbrev pub invariant-loop-thread : goal.invariant-loop-thread
invariant-loop-thread l = with_threads l.self (drop l.thread-index l.threads) ≡ with_threads l.fn.self l.threads
