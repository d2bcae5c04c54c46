use Rattle.tr_queues.specs.Changes.{queue_in}
use Rattle.tr_queues.specs.Slots.{standing}
use Rattle.tr_queues.proofs.pending.Pending.holds.Goals as goal

pub returns : goal.returns
returns c = c.takes_some.ensures (queue_in c.args.target (standing c.args.self.now.slots.items)) c.mask.ensures
