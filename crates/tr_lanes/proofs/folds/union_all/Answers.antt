use Rattle.std.proofs.Common.{arith, ◌∙◌, ◌+◌, ap, sym, bit_or, length, ◌/◌, ◌*◌, take}
use Rattle.std.specs.Int.Bits.{or_zero_l}
use Rattle.std.proofs.lemmas.Simd.{length-zip2}
use Rattle.tr_lanes.specs.Scans.{union_of}
use Rattle.tr_lanes.proofs.Blocks.{length_block}
use Rattle.tr_lanes.proofs.Sums.{union_block, union_row, fold_l-union}
use Rattle.tr_lanes.proofs.folds.union_all.Goals as goal

pub loop-block-preserved : goal.loop-block-preserved
loop-block-preserved c = record {
  eight = length-zip2 (λ a b. bit_or a b) c.loop-block.lanes _ (c.loop-block.invariant.eight ∙ sym (length_block 8 (length c.args.rows.now / 8) c.args.rows.now c.as_chunks.result.0.now _ c.loop-block.block-index c.as_chunks.ensures.front (omega arith) (omega arith))) ∙ c.loop-block.invariant.eight;
  so_far = union_block 8 (length c.args.rows.now / 8) c.args.rows.now c.as_chunks.result.0.now _ c.loop-block.block-index (8 * (c.loop-block.block-index + 1)) c.as_chunks.ensures.front (omega arith) (omega arith) c.loop-block.lanes (omega arith) c.loop-block.invariant.eight c.loop-block.invariant.so_far;
}

pub loop-row-init : goal.loop-row-init
loop-row-init c = fold_l-union 0 c.loop-block.lanes ∙ or_zero_l _ ∙ c.loop-block.invariant.so_far ∙ ap (λ n. union_of (take n c.args.rows.now)) (omega arith)

pub loop-row-preserved : goal.loop-row-preserved
loop-row-preserved c = union_row c.args.rows.now c.as_chunks.result.1.now (length c.args.rows.now / 8 * 8) c.loop-row.row-index c.loop-row.all (omega arith) c.as_chunks.ensures.back c.loop-row-test.true c.loop-row.invariant
