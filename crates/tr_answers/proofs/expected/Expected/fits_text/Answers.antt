use Rattle.std.proofs.Common.{◌≡◌, ◌∙◌, ap, false}
use Rattle.std.specs.Str.{bytes_eq}
use Rattle.tr_answers.specs.Fits.{is_open}
use Rattle.tr_answers.proofs.Words.{closed_fits}
use Rattle.tr_answers.proofs.expected.Expected.fits_text.Goals as goal

pub returns-else-self : goal.returns-else-self
returns-else-self c =
    let same : c.as_bytes-expected.result.now ≡ c.args.self.now = cc in
    let closed : is_open c.args.self.now ≡ false = cc in
    c.eq.ensures ∙ (ap (λ e. bytes_eq e c.args.text.now) same ∙ closed_fits c.args.self.now c.args.text.now closed)
