-- The statuses of some threads, one after another.
use Rattle.std.proofs.Common.{◌≡◌, ◌+◌, ◌<◌, ℕ, List, ◌++◌, length, get_or, drop}
use Rattle.std.proofs.lemmas.List.{at_drop_more}
use Rattle.tr_tracee.specs.declared.thread.Thread.{Thread}
use Rattle.tr_model.specs.Tables.{Table}
use Rattle.tr_status.specs.Statuses.{status_text}
use Rattle.tr_live.specs.Dialogues.{table_text}

pub table_text_at : (T : Table) (ts : List Thread) (i : ℕ) (d : Thread) → i < length ts →
    table_text T (drop i ts) ≡ status_text T (get_or ts i d) ++ table_text T (drop (i + 1) ts)
table_text_at T ts i d h = at_drop_more (table_text T) ts i d h
