use Rattle.std.proofs.Common.{◌||◌, ◌∙◌, ap, sym}
use Rattle.std.specs.List.{list_any}
use Rattle.tr_pending.specs.declared.instance.Instance.{Instance}
use Rattle.tr_queues.specs.Changes.{flushes}
use Rattle.tr_queues.specs.declared.picked.Flush.{Flush}
use Rattle.tr_queues.proofs.Holding.{any_stop}
use Rattle.tr_queues.proofs.picked.Flush.takes_some.Goals as goal

pub returns-in-Stops : goal.returns-in-Stops
returns-in-Stops c is mask =
    c.has_stop.ensures
    ∙ ((λ j. mask 19 j || (mask 20 j || (mask 21 j || mask 22 j)))
    ∙ (sym (any_stop is) ∙ ap (λ (f : Flush). list_any (λ (i : Instance). flushes f i.sig) is) (sym c.in-Stops.is)))
