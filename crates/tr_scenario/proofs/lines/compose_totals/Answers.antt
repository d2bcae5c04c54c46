use Rattle.tr_scenario.proofs.lines.compose_totals.Goals as goal

pub returns-clause-text : goal.returns-clause-text
returns-clause-text c =
    let a = rw (c.prepend_number-6.ensures.text, c.prepend-6.ensures.text, c.prepend_number-5.ensures.text, c.prepend-5.ensures.text, c.prepend_number-4.ensures.text, c.prepend-4.ensures.text) at c.prepend-7.ensures.text in
    rw (c.prepend_number-3.ensures.text, c.prepend-3.ensures.text, c.prepend_number-2.ensures.text, c.prepend-2.ensures.text, c.prepend_number.ensures.text, c.prepend.ensures.text, c.requires.empty) at a
