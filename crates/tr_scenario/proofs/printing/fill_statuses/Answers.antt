use Rattle.std.proofs.Common.{◌+◌, ◌++◌, ◌∙◌, drop}
use Rattle.std.proofs.lemmas.Result.{err_from_is_err_and}
use Rattle.tr_scenario.proofs.Halts.{halts_on, left_after, shorter_after}
use Rattle.tr_scenario.specs.RunTexts.{spaced_status, statuses}
use Rattle.tr_scenario.proofs.StatusTexts.{statuses_at}
use Rattle.tr_scenario.proofs.printing.fill_statuses.Goals as goal

pub returns-in_err-fill_status : goal.returns-in_err-fill_status
returns-in_err-fill_status g c =
    let p = err_from_is_err_and c.from_residual.result c.from_residual.ensures.1 in
    let i = c.loop-thread.invariant in
    let T = c.args.table.now.table in
    let threads = c.threads-threads.result.now in
    let k = c.loop-thread.thread-index in
    let t = c.thread-item.result in
    let e = statuses_at T threads k t c.loop-thread-test.true in
    rw (p.1, p.2, ← c.threads-threads.ensures) (halts_on _ (g.W.Sink.taken c.loop-thread.writer) _ c.loop-thread.page (spaced_status T t) (statuses T (drop (k + 1) threads)) _ _ _ _ _ (rw (e, ← c.thread-item.is) at i.left) (rw (e, ← c.thread-item.is) at i.shorter) i.same c.in_err-fill_status.ensures)

pub loop-thread-preserved : goal.loop-thread-preserved
loop-thread-preserved g c =
    let i = c.loop-thread.invariant in
    let T = c.args.table.now.table in
    let threads = c.threads-threads.result.now in
    let k = c.loop-thread.thread-index in
    let t = c.thread-item.result in
    let e = statuses_at T threads k t c.loop-thread-test.true in
    let went = c.in_ok-fill_status.ensures in
    let here = spaced_status T t in
    let rest = statuses T (drop (k + 1) threads) in
    let text = c.args.page.now ++ statuses T threads in
    record {
      left = left_after (g.W.Sink.taken c.args.writer.now) (g.W.Sink.taken c.loop-thread.writer) _ c.loop-thread.page _ here rest text (rw (e, ← c.thread-item.is) at i.left) went.0;
      shorter = shorter_after c.loop-thread.page _ here rest text (rw (e, ← c.thread-item.is) at i.shorter) went.1;
      same = went.2 ∙ i.same;
    }
