use Rattle.tr_lanes.proofs.Masks.{held_lanes}
use Rattle.tr_lanes.proofs.folds.held_in.Goals as goal

pub returns : goal.returns
returns c = held_lanes c.args.block.now c.args.bit c.told-block
