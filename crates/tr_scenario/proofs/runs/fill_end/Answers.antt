use Rattle.std.proofs.Common.{◌≡◌, ◌++◌, ◌≤◌, ◌∙◌, ap, length, subst}
use Rattle.std.proofs.lemmas.Result.{err_from_is_err_and}
use Rattle.tr_model.specs.Journals.{totals}
use Rattle.tr_model.specs.Tables.{Table}
use Rattle.tr_starts.specs.Starts.{table_of}
use Rattle.tr_status.specs.Writing.{IsFront}
use Rattle.tr_scenario.specs.Lines.{totals_text}
use Rattle.tr_scenario.specs.Printing.{IsHalt}
use Rattle.tr_scenario.specs.RunTexts.{statuses}
use Rattle.tr_scenario.proofs.Filled.{fills_pushed, halts_first, halts_unpushed}
use Rattle.tr_scenario.proofs.runs.fill_end.Goals as goal

pub returns-in_err-fill_statuses : goal.returns-in_err-fill_statuses
returns-in_err-fill_statuses g c =
    let p = err_from_is_err_and c.from_residual.result c.from_residual.ensures.1 in
    let k = c.args.kernel.now in
    let old = g.W.Sink.taken c.args.writer.now in
    let new = g.W.Sink.taken c.fill_statuses.new.writer in
    let e = c.in_err-fill_statuses.field-0.0 in
    let f_old = g.W.Sink.failures c.args.writer.now in
    let f_new = g.W.Sink.failures c.fill_statuses.new.writer in
    let h = subst (λ (T : Table). IsFront old new (c.args.page.now ++ statuses T T.threads) × IsHalt e f_old f_new) c.table.ensures c.in_err-fill_statuses.ensures in
    rw (p.1, p.2) (halts_first old new c.args.page.now (statuses k.table k.table.threads) (totals_text (totals (table_of k.start) k.journal k.table)) e f_old f_new h)

pub returns-in_err-push_totals : goal.returns-in_err-push_totals
returns-in_err-push_totals g c =
    let p = err_from_is_err_and c.from_residual-in_err-push_totals.result c.from_residual-in_err-push_totals.ensures.1 in
    let k = c.args.kernel.now in
    let old = c.args.writer.now in
    let mid = c.fill_statuses.new.writer in
    let page_mid = c.fill_statuses.new.page in
    let went = subst (λ (T : Table). (g.W.Sink.taken mid ++ page_mid ≡ g.W.Sink.taken old ++ (c.args.page.now ++ statuses T T.threads)) × (length page_mid ≤ length (c.args.page.now ++ statuses T T.threads)) × (g.W.Sink.failures mid ≡ g.W.Sink.failures old)) c.table.ensures c.in_ok-fill_statuses.ensures in
    rw (p.1, p.2) (halts_unpushed g.W.Sink.taken g.W.Sink.failures old mid c.args.page.now page_mid (statuses k.table k.table.threads) (totals_text (totals (table_of k.start) k.journal k.table)) went)

pub returns : goal.returns
returns g c =
    let k = c.args.kernel.now in
    let old = c.args.writer.now in
    let mid = c.fill_statuses.new.writer in
    let page_mid = c.fill_statuses.new.page in
    let went = subst (λ (T : Table). (g.W.Sink.taken mid ++ page_mid ≡ g.W.Sink.taken old ++ (c.args.page.now ++ statuses T T.threads)) × (length page_mid ≤ length (c.args.page.now ++ statuses T T.threads)) × (g.W.Sink.failures mid ≡ g.W.Sink.failures old)) c.table.ensures c.in_ok-fill_statuses.ensures in
    let pushed = c.in_ok-push_totals.ensures ∙ ap (λ t. page_mid ++ totals_text t) c.totals.ensures.totals in
    fills_pushed g.W.Sink.taken g.W.Sink.failures old mid c.args.page.now page_mid _ (statuses k.table k.table.threads) (totals_text (totals (table_of k.start) k.journal k.table)) went pushed
