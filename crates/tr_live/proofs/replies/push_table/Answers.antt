use Rattle.std.proofs.Common.{◌+◌, ◌++◌, ◌∙◌, ap, append_assoc, drop}
use Rattle.tr_status.specs.Statuses.{status_text}
use Rattle.tr_live.specs.Dialogues.{table_text}
use Rattle.tr_live.proofs.TableTexts.{table_text_at}
use Rattle.tr_live.proofs.replies.push_table.Goals as goal

pub loop-thread-preserved : goal.loop-thread-preserved
loop-thread-preserved c =
    let T = c.args.table.now.table in
    let threads = c.threads-threads.result.now in
    let k = c.loop-thread.thread-index in
    let t = c.thread-item.result in
    let e = table_text_at T threads k t c.loop-thread-test.true in
    let rest = table_text T (drop (k + 1) threads) in
    ap (λ xs. xs ++ rest) c.in_ok-push_status.ensures ∙ (append_assoc c.loop-thread.page (status_text T t) rest ∙ (rw (e, ← c.thread-item.is) at c.loop-thread.invariant))
