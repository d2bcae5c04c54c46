use Rattle.std.proofs.Common.{◌∙◌}
use Rattle.tr_picture.proofs.Rowed.{sheeted}
use Rattle.tr_picture.proofs.pictures.push_sheet.Goals as goal

pub returns : goal.returns
returns c = sheeted _ _ _ _ _ (c.as_bytes.ensures.value ∙ c.style_sheet.ensures) c.in_ok-push.ensures.ok c.in_ok-push_escaped.ensures c.in_ok-push-2.ensures.ok
