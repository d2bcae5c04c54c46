use Rattle.std.proofs.Common.{◌≡◌, ℕ, ◌<◌, ◌+◌, ◌*◌, get_or, false}
use Rattle.tr_lanes.specs.Scans.{ready_words, is_ready}
use Rattle.tr_lanes.proofs.ready.first_ready.Given as goal

abbrev pub invariant-loop-c : goal.invariant-loop-c
invariant-loop-c l = (k : ℕ) → k < 8 * l.c → is_ready (get_or (ready_words l.own l.blocked l.shared l.runnable) k 0) ≡ false

abbrev pub invariant-loop-j : goal.invariant-loop-j
invariant-loop-j l = (k : ℕ) → k < l.start + l.j → is_ready (get_or (ready_words l.own l.blocked l.shared l.runnable) k 0) ≡ false
