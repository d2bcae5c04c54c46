use Rattle.std.proofs.Common.{◌≡◌, Some, rules, subst}
use Rattle.tr_queues.specs.Changes.{queue_in}
use Rattle.tr_queues.specs.Lines.{IsQueue, queue_at}
use Rattle.tr_queues.specs.Slots.{standing}
use Rattle.tr_queues.proofs.pending.Pending.queue.Goals as goal

pub returns : goal.returns
returns c =
    let p = c.args.self.now in
    let found : queue_at p.queues c.args.target ≡ Some c.in_ok-queue.queue = search rules in
    subst (λ x. IsQueue x (queue_in c.args.target (standing p.slots.items))) found (c.requires.lines.queued c.args.target)
