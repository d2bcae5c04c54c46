use Rattle.tr_workers.specs.Follows.{heard}
use Rattle.tr_figures.specs.Calls.{arrow_style, chip_words}
use Rattle.tr_figures.proofs.Marked.{chip_pushed}
use Rattle.tr_figures.proofs.calls.push_chip.Goals as goal

pub returns : goal.returns
returns c =
    let e = c.args.event.now in
    let a = heard c.args.answer.now in
    chip_pushed _ _ _ (arrow_style e a) _ c.in-Some.x c.args.place (chip_words e a) c.in-Some.is c.arrow_style.ensures c.in_ok-push_rect.ensures c.in_ok-push_chip_words.ensures
