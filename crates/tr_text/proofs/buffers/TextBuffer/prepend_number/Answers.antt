use Rattle.std.proofs.Common.{rules}
use Rattle.std.proofs.lemmas.Fmt.{length-decimal-le}
use Rattle.tr_text.proofs.buffers.TextBuffer.prepend_number.Goals as goal

pub write_digits-self-inside-requires : goal.write_digits-self-inside-requires
write_digits-self-inside-requires g c = search (rules, length-decimal-le 20)

pub returns-clause-short : goal.returns-clause-short
returns-clause-short g c = search (rules, length-decimal-le 20)
