use Rattle.std.proofs.Common.{◌∙◌}
use Rattle.tr_scenario.specs.RunTexts.{call_of}
use Rattle.tr_picture.proofs.Pictured.{made_is}
use Rattle.tr_picture.proofs.drawing.DrawingObserver.make.Goals as goal

pub returns-clause-known : goal.returns-clause-known
returns-clause-known c =
    made_is c.args.self.now _ _ c.args.kernel.now c.make_logged.new.kernel (call_of c.args.actor c.args.event.now) c.in_ok-answer.answer _ _ _ _ _ _
    c.self.view_is c.clear-2.ensures c.in_ok-answer.ensures.line c.as_bytes.ensures c.table.ensures (c.as_slice.ensures.value ∙ c.in_ok-list_reports.ensures.reports) c.in_ok-answer.ensures.done c.in_ok-answer.ensures.makes c.in_ok-answer.ensures.answer c.in_ok-push_call.ensures
