use Rattle.std.proofs.Common.{◌∙◌, refl, sym}
use Rattle.tr_lanes.proofs.Masks.{first_clear_lane, no_clear_lane}
use Rattle.tr_lanes.proofs.rows.clear_in.Goals as goal

pub returns-then-rows-bit-ne0 : goal.returns-then-rows-bit-ne0
returns-then-rows-bit-ne0 c = sym (no_clear_lane c.args.block.now c.args.bit _ c.if-rows-bit-ne0.true ∙ c.told-block)

pub returns : goal.returns
returns c = c.lowest.ensures ∙ first_clear_lane c.args.block.now c.args.bit _ c.told-block refl
