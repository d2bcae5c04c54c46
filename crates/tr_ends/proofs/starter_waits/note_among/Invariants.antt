use Rattle.std.proofs.Common.{◌≡◌, ◌≤◌, ◌-◌, drop, filter, length}
use Rattle.tr_model.specs.StarterWaits.{shows_note, group_with_note}
use Rattle.tr_ends.proofs.starter_waits.note_among.Given as goal

abbrev pub invariant-loop-next : goal.invariant-loop-next
invariant-loop-next l =
    (l.met ≤ l.place)
    × (l.place ≤ length l.groups)
    × (group_with_note (filter (shows_note l.table.table l.which l.flags) (drop l.place l.groups)) l.number ≡ group_with_note (filter (shows_note l.table.table l.which l.flags) l.groups) l.number)

abbrev pub decreases-loop-next : goal.decreases-loop-next
decreases-loop-next l = length l.groups - l.place
