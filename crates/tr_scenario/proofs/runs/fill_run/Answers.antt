use Rattle.std.proofs.lemmas.Result.{err_from_is_err_and}
use Rattle.tr_starts.specs.Starts.{table_of}
use Rattle.tr_scenario.specs.Kernels.{so_far}
use Rattle.tr_scenario.specs.RunTexts.{end_text, state_after}
use Rattle.tr_scenario.specs.Serial.{job_calls, job_text}
use Rattle.tr_scenario.proofs.Filled.{fills_after, halts_first}
use Rattle.tr_scenario.proofs.Left.{fills_end}
use Rattle.tr_scenario.proofs.runs.fill_run.Goals as goal

pub returns-in_err-fill_job : goal.returns-in_err-fill_job
returns-in_err-fill_job g c =
    let p = err_from_is_err_and c.from_residual.result c.from_residual.ensures.1 in
    let k = c.args.kernel.now in
    let s = so_far k in
    let job = c.args.job.now in
    rw (p.1, p.2) (halts_first _ _ c.args.page.now (job_text g.T.Telling.text s job) (end_text (table_of k.start) (state_after s (job_calls s job))) _ _ _ c.in_err-fill_job.ensures.prints)

pub returns : goal.returns
returns g c =
    let k = c.args.kernel.now in
    let s = so_far k in
    let job = c.args.job.now in
    let end = fills_end g.W.Sink.taken g.W.Sink.failures c.fill_job.new.writer c.fill_end.new.writer c.fill_job.new.page c.fill_end.new.page k c.fill_job.new.kernel (job_calls s job) c.fill_end.result c.in_ok-fill_job.ensures.makes c.fill_end.ensures in
    fills_after g.W.Sink.taken g.W.Sink.failures c.args.writer.now c.fill_job.new.writer c.args.page.now c.fill_job.new.page (job_text g.T.Telling.text s job) (end_text (table_of k.start) (state_after s (job_calls s job))) c.in_ok-fill_job.ensures.prints c.fill_end.new.writer c.fill_end.new.page c.fill_end.result end
