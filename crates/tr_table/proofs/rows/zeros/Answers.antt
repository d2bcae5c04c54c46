use Rattle.std.proofs.Common.{◌∙◌, List, ℕ, ap, take}
use Rattle.std.proofs.lemmas.List.{take-replicate}
use Rattle.tr_table.proofs.rows.zeros.Goals as goal

pub returns : goal.returns
returns c = c.truncate.ensures.items ∙ (ap (λ (xs : List ℕ). take c.args.count xs) c.from-words.ensures.0 ∙ take-replicate c.args.count 64 0 c.requires)
