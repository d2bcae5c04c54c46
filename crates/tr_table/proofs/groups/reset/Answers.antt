use Rattle.std.proofs.Common.{arith}
use Rattle.std.proofs.lemmas.Grind.{common_steps}
use Rattle.std.proofs.lemmas.List.Edits.{map_over_more}
use Rattle.tr_group.specs.Actions.{reset}
use Rattle.tr_table.proofs.groups.reset.Goals as goal

pub loop-action-preserved : goal.loop-action-preserved
loop-action-preserved c = grind (arith, common_steps, map_over_more reset)
