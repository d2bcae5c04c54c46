use Rattle.std.proofs.Common.{◌∙◌}
use Rattle.tr_pending.proofs.Best.{first_ready, none_ready}
use Rattle.tr_queues.specs.Changes.{queue_in}
use Rattle.tr_queues.specs.Slots.{standing}
use Rattle.tr_queues.proofs.pending.Pending.best.Goals as goal

pub returns-in-Some : goal.returns-in-Some
returns-in-Some c = c.first.ensures ∙ first_ready c.args.blocked c.mask.result c.minus.result (queue_in c.args.target (standing c.args.self.now.slots.items)) c.mask.ensures c.minus.ensures c.in-Some.signal c.in-Some.ensures.member c.in-Some.ensures.least

pub returns-in-None : goal.returns-in-None
returns-in-None c = none_ready c.args.blocked c.mask.result c.minus.result (queue_in c.args.target (standing c.args.self.now.slots.items)) c.mask.ensures c.minus.ensures c.in-None.ensures.none
