use Rattle.std.proofs.Common.{◌∙◌, ap}
use Rattle.tr_workers.specs.Follows.{heard}
use Rattle.tr_figures.specs.Calls.{chip_place}
use Rattle.tr_figures.proofs.Marked.{marked}
use Rattle.tr_figures.proofs.calls.push_marks.Goals as goal

pub returns : goal.returns
returns c =
    let e = c.args.event.now in
    marked _ _ _ _ e (heard c.args.answer.now) c.args.actor c.args.lane _ _ c.arrow_style.ensures (c.chip_place.ensures.place ∙ ap (λ b. chip_place b c.args.actor c.args.lane) c.is_own.ensures) c.in_ok-push_arrow.ensures c.in_ok-push_refusal.ensures c.in_ok-push_chip.ensures
