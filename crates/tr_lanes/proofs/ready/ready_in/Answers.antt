use Rattle.tr_lanes.proofs.Masks.{ready_lanes}
use Rattle.tr_lanes.proofs.ready.ready_in.Goals as goal

pub returns : goal.returns
returns c = ready_lanes c.args.own.now c.args.blocked.now c.args.shared c.args.runnable.now c.told-own
