use Rattle.std.proofs.Common.{[], ◌∷◌}
use Rattle.tr_reasons.specs.Reasons.{own}
use Rattle.tr_reasons.proofs.Firsts.{first_then}
use Rattle.tr_reasons.proofs.finding.own_then.Goals as goal

pub returns-in-Some : goal.returns-in-Some
returns-in-Some c = first_then (own c.args.table.now.table c.args.thread.now) (c.args.other ∷ []) c.in-Some.reason c.in-Some.ensures
