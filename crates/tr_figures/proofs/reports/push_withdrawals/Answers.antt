use Rattle.std.proofs.Common.{◌+◌, ◌∙◌, ◌++◌, None, ap, arith, drop, get_or}
use Rattle.tr_model.specs.declared.rows.Target.TheVariants.{Thread}
use Rattle.tr_figures.specs.declared.reports.LaneReport.{LaneReport}
use Rattle.tr_figures.specs.Elements.{printed}
use Rattle.tr_figures.specs.Reports.{report_in, withdrawals, withdrawn}
use Rattle.tr_figures.proofs.Pushed.{first_left, next_pushed}
use Rattle.tr_figures.proofs.reports.push_withdrawals.Goals as goal

pub loop-shown-preserved : goal.loop-shown-preserved
loop-shown-preserved c =
    let T = c.args.table.now.table in
    let taken = c.args.taken in
    let bs = c.args.before.now in
    let i = c.loop-shown.shown-index in
    let left = c.loop-shown.left in
    let page = c.loop-shown.page in
    let d : LaneReport = record { lane = Thread 0; report = None } in
    let b = get_or bs i d in
    record {
      text = next_pushed _ _ _ (withdrawals left T taken (drop i bs)) (withdrawn left b.report (report_in T b.lane) taken) (withdrawals (left + 292) T taken (drop (i + 1) bs)) (ap (λ l. withdrawals left T taken l) (first_left bs i d c.loop-shown-test.true)) c.loop-shown.invariant.text (c.in_ok-push_withdrawn.ensures ∙ ap (λ a. page ++ printed (withdrawn left b.report a taken)) c.report_in-after.ensures);
      left = omega (arith, c.loop-shown.invariant.left);
    }
