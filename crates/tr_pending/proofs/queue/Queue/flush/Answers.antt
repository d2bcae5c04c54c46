use Rattle.std.proofs.Common.{ap, ◌∙◌, sym}
use Rattle.tr_pending.specs.Waiting.{is_waiting}
use Rattle.tr_pending.proofs.Masks.{kept_mask}
use Rattle.tr_pending.proofs.queue.Queue.flush.Goals as goal

pub invariant_of-self : goal.invariant_of-self
invariant_of-self c n =
    kept_mask c.args.set c.self.inside.mask _ c.self.inside.items.items c.self.invariant c.minus-self-inside.ensures n ∙ ap (is_waiting n) (sym c.keep_others.ensures.items)
