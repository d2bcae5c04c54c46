use Rattle.std.proofs.Common.{arith}
use Rattle.std.proofs.lemmas.Grind.{common_steps}
use Rattle.std.proofs.lemmas.List.Edits.{map_over_more}
use Rattle.tr_index.specs.Multisets.{lowered}
use Rattle.tr_index.proofs.multiset.lower_each.Goals as goal

pub loop-m-preserved : goal.loop-m-preserved
loop-m-preserved c = grind (arith, common_steps, map_over_more (lowered c.args.n))
