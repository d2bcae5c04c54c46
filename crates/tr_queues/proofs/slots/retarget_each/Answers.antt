use Rattle.std.proofs.Common.{arith}
use Rattle.std.proofs.lemmas.Grind.{common_steps}
use Rattle.std.proofs.lemmas.List.Edits.{map_over_more}
use Rattle.tr_queues.specs.Slots.{retargeted_slot}
use Rattle.tr_queues.proofs.slots.retarget_each.Goals as goal

pub loop-slot-preserved : goal.loop-slot-preserved
loop-slot-preserved c = grind (arith, common_steps, map_over_more (retargeted_slot c.args.from c.args.to))
