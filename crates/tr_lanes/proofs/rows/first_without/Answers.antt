use Rattle.std.proofs.Common.{◌*◌, ◌/◌, ◌==◌, bit_and, length, arith, ap, ◌∙◌}
use Rattle.std.specs.List.{position_or_len}
use Rattle.std.proofs.lemmas.Bool.{eq-eqb}
use Rattle.tr_lanes.proofs.Blocks.{stopped, passed_all, position_found, position_none, rest_at, block_is}
use Rattle.tr_lanes.proofs.rows.first_without.Goals as goal

pub returns-then-k-lt8 : goal.returns-then-k-lt8
returns-then-k-lt8 c =
    stopped (λ x. bit_and x c.args.bit == 0) c.args.rows.now c.loop-c.c c.clear_in-k.result (omega arith)
    (c.clear_in-k.ensures ∙ ap (position_or_len (λ x. bit_and x c.args.bit == 0)) (block_is 8 (length c.args.rows.now / 8) c.args.rows.now c.as_chunks.result.0.now _ c.loop-c.c c.as_chunks.ensures.front (omega arith)))
    c.loop-c.invariant c.if-k-lt8.true

pub loop-c-preserved : goal.loop-c-preserved
loop-c-preserved c =
    passed_all (λ x. bit_and x c.args.bit == 0) c.args.rows.now c.loop-c.c c.clear_in-k.result (omega arith)
    (c.clear_in-k.ensures ∙ ap (position_or_len (λ x. bit_and x c.args.bit == 0)) (block_is 8 (length c.args.rows.now / 8) c.args.rows.now c.as_chunks.result.0.now _ c.loop-c.c c.as_chunks.ensures.front (omega arith)))
    c.loop-c.invariant c.if-k-lt8.false

pub returns-then-row-bit-eq0 : goal.returns-then-row-bit-eq0
returns-then-row-bit-eq0 c =
    position_found (λ x. bit_and x c.args.bit == 0) c.args.rows.now _ (omega arith) c.loop-j.invariant
    (ap (λ x. bit_and x c.args.bit == 0) (rest_at c.args.rows.now c.as_chunks.result.1.now (length c.args.rows.now / 8 * 8) c.loop-j.j (omega arith) c.as_chunks.ensures.back) ∙ eq-eqb _ 0 c.if-row-bit-eq0.true)

pub returns : goal.returns
returns c = position_none (λ x. bit_and x c.args.bit == 0) c.args.rows.now (λ k h. c.loop-j.invariant k (omega arith))
