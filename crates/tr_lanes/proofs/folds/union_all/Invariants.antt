use Rattle.std.proofs.Common.{◌≡◌, ◌+◌, ◌-◌, ◌*◌, length, take}
use Rattle.tr_lanes.specs.Scans.{union_of}
use Rattle.tr_lanes.proofs.folds.union_all.Given as goal

abbrev pub invariant-loop-block : goal.invariant-loop-block
invariant-loop-block l = record { eight : length l.lanes ≡ 8; so_far : union_of l.lanes ≡ union_of (take (8 * l.block-index) l.rows) }

abbrev pub invariant-loop-row : goal.invariant-loop-row
invariant-loop-row l = l.all ≡ union_of (take (length l.rows - length l.rest + l.row-index) l.rows)
