use Rattle.std.proofs.Common.{◌≡◌, ◌++◌, drop}
use Rattle.tr_live.specs.Dialogues.{table_text}
use Rattle.tr_live.proofs.replies.push_table.Given as goal

abbrev pub invariant-loop-thread : goal.invariant-loop-thread
invariant-loop-thread l = l.page ++ table_text l.table.table (drop l.thread-index l.threads) ≡ l.fn.page ++ table_text l.table.table l.threads
