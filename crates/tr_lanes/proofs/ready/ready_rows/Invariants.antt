use Rattle.std.proofs.Common.{◌≡◌, ◌+◌, ◌*◌, take}
use Rattle.tr_lanes.specs.Scans.{ready_words}
use Rattle.tr_lanes.proofs.ready.ready_rows.Given as goal

abbrev pub invariant-loop-c : goal.invariant-loop-c
invariant-loop-c l = take (8 * l.c) l.out ≡ take (8 * l.c) (ready_words l.own l.blocked l.shared l.runnable)

abbrev pub invariant-loop-j : goal.invariant-loop-j
invariant-loop-j l = take (l.start + l.j) l.out ≡ take (l.start + l.j) (ready_words l.own l.blocked l.shared l.runnable)
