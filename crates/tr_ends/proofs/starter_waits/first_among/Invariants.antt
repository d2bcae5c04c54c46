use Rattle.std.proofs.Common.{◌≡◌, ◌≤◌, ◌-◌, drop, flat_map, length}
use Rattle.tr_model.specs.StarterWaits.{ready_of_group}
use Rattle.tr_ends.specs.Private.{first_number, led_among}
use Rattle.tr_ends.proofs.starter_waits.first_among.Given as goal

abbrev pub invariant-loop-next : goal.invariant-loop-next
invariant-loop-next l =
    (l.met ≤ l.place)
    × (l.place ≤ length l.groups)
    × (first_number (flat_map (ready_of_group l.table.table l.flags) (led_among l.table.table l.which (drop l.place l.groups)))
    ≡ first_number (flat_map (ready_of_group l.table.table l.flags) (led_among l.table.table l.which l.groups)))

abbrev pub decreases-loop-next : goal.decreases-loop-next
decreases-loop-next l = length l.groups - l.place
