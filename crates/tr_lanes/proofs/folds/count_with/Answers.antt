use Rattle.std.proofs.Common.{arith, ap, ◌∙◌, ◌+◌, ◌*◌, ◌/◌, ◌==◌, bit_and, length, length-take, take}
use Rattle.std.specs.List.{count_by}
use Rattle.std.proofs.Math.Nat.{zero-add}
use Rattle.std.proofs.lemmas.List.Sums.{count_by-le-length}
use Rattle.std.proofs.lemmas.Simd.{fold-sum, sum_fits}
use mir.Syntax.{w64}
use Rattle.tr_lanes.proofs.Sums.{lanes_fit, count_more, length_more}
use Rattle.tr_lanes.proofs.folds.count_with.Goals as goal

pub overflow_add-lanes : goal.overflow_add-lanes
overflow_add-lanes c =
    lanes_fit (λ row. bit_and row c.args.bit == c.args.bit) 16 (length c.args.rows.now / 16) c.args.rows.now c.as_chunks.result.0.now _ c.loop-block.block-index (16 * (c.loop-block.block-index + 1)) c.as_chunks.ensures.front (omega arith) (omega arith) (omega arith)
    c.loop-block.lanes c.held_in-lanes.result c.loop-block.invariant.sixteen c.loop-block.invariant.so_far c.held_in-lanes.ensures (omega arith)

pub loop-block-preserved : goal.loop-block-preserved
loop-block-preserved c = record {
  sixteen = length_more (λ row. bit_and row c.args.bit == c.args.bit) 16 (length c.args.rows.now / 16) c.args.rows.now c.as_chunks.result.0.now _ c.loop-block.block-index (16 * (c.loop-block.block-index + 1)) c.as_chunks.ensures.front (omega arith) (omega arith) (omega arith)
      c.loop-block.lanes c.held_in-lanes.result c.loop-block.invariant.sixteen c.loop-block.invariant.so_far c.held_in-lanes.ensures;
  so_far = count_more (λ row. bit_and row c.args.bit == c.args.bit) 16 (length c.args.rows.now / 16) c.args.rows.now c.as_chunks.result.0.now _ c.loop-block.block-index (16 * (c.loop-block.block-index + 1)) c.as_chunks.ensures.front (omega arith) (omega arith) (omega arith)
      c.loop-block.lanes c.held_in-lanes.result c.loop-block.invariant.sixteen c.loop-block.invariant.so_far c.held_in-lanes.ensures;
}

pub overflow_add-count : goal.overflow_add-count
overflow_add-count c = sum_fits w64 0 c.loop-block.lanes (omega (arith, c.loop-block.invariant.so_far, count_by-le-length (λ row. bit_and row c.args.bit == c.args.bit) (take (16 * c.loop-block.block-index) c.args.rows.now), length-take (16 * c.loop-block.block-index) c.args.rows.now))

pub loop-row-init : goal.loop-row-init
loop-row-init c = fold-sum 0 c.loop-block.lanes ∙ zero-add _ ∙ c.loop-block.invariant.so_far ∙ ap (λ n. count_by (λ row. bit_and row c.args.bit == c.args.bit) (take n c.args.rows.now)) (omega arith)
