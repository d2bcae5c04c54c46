use Rattle.std.proofs.Common.{◌≡◌, ℕ, ◌+◌, ◌-◌, ◌*◌, ◌<◌, ◌==◌, bit_and, length, get_or, false}
use Rattle.tr_lanes.proofs.rows.first_without.Given as goal

abbrev pub invariant-loop-c : goal.invariant-loop-c
invariant-loop-c l = (k : ℕ) → k < 8 * l.c → (bit_and (get_or l.rows k 0) l.bit == 0) ≡ false

abbrev pub invariant-loop-j : goal.invariant-loop-j
invariant-loop-j l = (k : ℕ) → k < length l.rows - length l.rest + l.j → (bit_and (get_or l.rows k 0) l.bit == 0) ≡ false
