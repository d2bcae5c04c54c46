use Rattle.std.proofs.Common.{◌∙◌}
use Rattle.tr_picture.proofs.Pictured.{described}
use Rattle.tr_picture.proofs.pictures.push_description_text.Goals as goal

pub returns : goal.returns
returns c = described _ _ _ c.args.totals.now c.push_escaped_pieces.result (c.as_bytes.ensures ∙ c.compose_totals.ensures.text) c.push_escaped_pieces.ensures
