use Rattle.std.proofs.Common.{◌≡◌, ◌≤◌, ◌-◌, drop, length}
use Rattle.tr_model.specs.StarterWaits.{with_death}
use Rattle.tr_ends.specs.Private.{led_among}
use Rattle.tr_ends.proofs.starter_waits.death_among.Given as goal

abbrev pub invariant-loop-next : goal.invariant-loop-next
invariant-loop-next l =
    (l.met ≤ l.place)
    × (l.place ≤ length l.groups)
    × (with_death l.table.table (led_among l.table.table l.which (drop l.place l.groups)) l.number ≡ with_death l.table.table (led_among l.table.table l.which l.groups) l.number)

abbrev pub decreases-loop-next : goal.decreases-loop-next
decreases-loop-next l = length l.groups - l.place
