-- No two statuses have one word.
use Rattle.std.proofs.Common.{◌≡◌, arith}
use Rattle.std.proofs.lemmas.Grind.{common_steps}
use Rattle.tr_wait.specs.Words.{IsStatus, word}
use Rattle.tr_wait.specs.declared.status.Status.{Status}

pub word-injective : (s t : Status) → IsStatus s → IsStatus t → word s ≡ word t → s ≡ t
word-injective s t p q e = grind (arith, common_steps)
