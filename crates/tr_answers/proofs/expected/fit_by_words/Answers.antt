use Rattle.std.proofs.Common.{◌∙◌, ap₂, arith, sym}
use Rattle.tr_answers.specs.Fits.{fits}
use Rattle.tr_answers.proofs.Words.{expected_goes_on, last_word, misfit, next_words}
use Rattle.tr_answers.proofs.expected.fit_by_words.Goals as goal

pub returns-then-not-fits_word : goal.returns-then-not-fits_word
returns-then-not-fits_word c =
    sym (c.words.invariant ∙ misfit c.words.expected.now c.words.text.now c.first_end-expected_end.result c.first_end-end.result c.first_end-expected_end.ensures.end c.first_end-end.ensures.end (sym c.fits_word.ensures ∙ c.if-not-fits_word.true))

pub returns-then-expected_end-expected : goal.returns-then-expected_end-expected
returns-then-expected_end-expected c =
    last_word c.words.expected.now c.words.text.now c.first_end-expected_end.result c.first_end-end.result c.first_end-expected_end.ensures.end c.first_end-end.ensures.end (sym c.fits_word.ensures ∙ c.if-not-fits_word.false) c.if-expected_end-expected.true c.first_end-end.ensures.within
    ∙ sym c.words.invariant

pub returns-then-end-text : goal.returns-then-end-text
returns-then-end-text c =
    sym (c.words.invariant ∙ expected_goes_on c.words.expected.now c.words.text.now c.first_end-expected_end.result c.first_end-end.result c.first_end-expected_end.ensures.end c.first_end-end.ensures.end (sym c.fits_word.ensures ∙ c.if-not-fits_word.false)
    (omega (arith, c.first_end-expected_end.ensures.within, c.if-expected_end-expected.false)) c.if-end-text.true)

pub words-preserved : goal.words-preserved
words-preserved c =
    let next = next_words c.words.expected.now c.words.text.now c.first_end-expected_end.result c.first_end-end.result c.first_end-expected_end.ensures.end c.first_end-end.ensures.end (sym c.fits_word.ensures ∙ c.if-not-fits_word.false)
    (omega (arith, c.first_end-expected_end.ensures.within, c.if-expected_end-expected.false)) (omega (arith, c.first_end-end.ensures.within, c.if-end-text.false)) in
    c.words.invariant ∙ (next ∙ sym (ap₂ fits c.after-expected.ensures c.after-text.ensures))
