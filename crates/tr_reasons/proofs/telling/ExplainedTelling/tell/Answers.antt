use Rattle.std.proofs.Common.{◌∙◌, ap}
use Rattle.tr_scenario.specs.RunTexts.{call_of}
use Rattle.tr_reasons.specs.Explained.{before}
use Rattle.tr_reasons.proofs.Whys.{explained_is, told_on}
use Rattle.tr_reasons.proofs.telling.ExplainedTelling.tell.Goals as goal

pub returns-clause-told : goal.returns-clause-told
returns-clause-told c =
    let call = call_of c.args.actor c.args.event.now in
    let e = c.in_ok-answer.ensures in
    told_on _ _ _ _ _ _ e.line c.in_ok-push_lines.ensures
    (explained_is c.args.kernel.now c.make_call.new.kernel call c.in_ok-answer.answer c.seen_before-before.result _ _ e.makes e.answer (c.seen_before-before.ensures ∙ ap (λ T. before T call) c.table.ensures) c.table-2.ensures c.why-sentence.ensures)
