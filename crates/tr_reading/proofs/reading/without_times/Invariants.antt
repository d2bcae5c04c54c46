use Rattle.std.proofs.Common.{◌≡◌, ◌+◌, drop, sum_by}
use Rattle.tr_reading.specs.Workers.{times_of_repeat}
use Rattle.tr_reading.proofs.reading.without_times.Given as goal

abbrev pub invariant-loop-item : goal.invariant-loop-item
invariant-loop-item l = l.left + sum_by (λ i. times_of_repeat i.repeat) l.items ≡ l.number + sum_by (λ i. times_of_repeat i.repeat) (drop l.item-index l.items)
