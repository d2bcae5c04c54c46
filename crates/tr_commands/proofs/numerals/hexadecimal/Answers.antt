use Rattle.std.proofs.Common.{◌≡◌, ◌∙◌, ap, sym, true}
use Rattle.tr_commands.specs.Asks.{is_numeral}
use Rattle.tr_commands.proofs.Digits.{reads}
use Rattle.tr_commands.proofs.numerals.hexadecimal.Goals as goal

pub returns-then-is_numeral : goal.returns-then-is_numeral
returns-then-is_numeral c =
    let fine : is_numeral c.args.text.now ≡ true = ap is_numeral (sym c.as_bytes.ensures.value) ∙ (sym c.is_numeral.ensures ∙ c.if-is_numeral.true) in
    c.ok.ensures.value ∙ reads c.args.text.now c.from_str_radix.result fine c.from_str_radix.ensures.value
