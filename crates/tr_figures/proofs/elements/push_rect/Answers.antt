use Rattle.std.proofs.Common.{◌∙◌}
use Rattle.tr_figures.proofs.Printed.{outlined}
use Rattle.tr_figures.proofs.elements.push_rect.Goals as goal

pub returns : goal.returns
returns c =
    outlined _ _ _ _ _ _ _ c.args.style c.args.x c.args.y c.args.width c.args.height c.push_pieces.result (c.as_bytes.ensures.value ∙ c.name.ensures) (c.as_bytes-left.ensures.value ∙ c.format.ensures.text)
    (c.as_bytes-2.ensures.value ∙ c.format-2.ensures.text) (c.as_bytes-3.ensures.value ∙ c.format-3.ensures.text) (c.as_bytes-4.ensures.value ∙ c.format-4.ensures.text) c.push_pieces.ensures
