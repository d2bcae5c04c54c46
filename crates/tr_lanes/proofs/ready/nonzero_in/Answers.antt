use Rattle.std.proofs.Common.{◌∙◌, refl, sym}
use Rattle.tr_lanes.proofs.Masks.{first_nonzero_lane, no_nonzero_lane}
use Rattle.tr_lanes.proofs.ready.nonzero_in.Goals as goal

pub returns-then-words-eq0 : goal.returns-then-words-eq0
returns-then-words-eq0 c = sym (no_nonzero_lane c.args.words c.if-words-eq0.true ∙ c.requires)

pub returns : goal.returns
returns c = c.lowest.ensures ∙ first_nonzero_lane c.args.words _ c.requires refl
