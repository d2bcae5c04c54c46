use Rattle.std.proofs.Common.{◌≡◌, ◌+◌, ◌-◌, ◌*◌, ◌==◌, bit_and, length, take}
use Rattle.std.specs.List.{count_by}
use lib.Lanes.{sum_l}
use Rattle.tr_lanes.proofs.folds.count_with.Given as goal

abbrev pub invariant-loop-block : goal.invariant-loop-block
invariant-loop-block l = record { sixteen : length l.lanes ≡ 16; so_far : sum_l l.lanes ≡ count_by (λ row. bit_and row l.bit == l.bit) (take (16 * l.block-index) l.rows) }

abbrev pub invariant-loop-row : goal.invariant-loop-row
invariant-loop-row l = l.count ≡ count_by (λ row. bit_and row l.bit == l.bit) (take (length l.rows - length l.rest + l.row-index) l.rows)
