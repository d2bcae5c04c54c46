use Rattle.std.proofs.Common.{◌∙◌}
use Rattle.tr_picture.proofs.Pictured.{hidden_told}
use Rattle.tr_picture.proofs.pictures.push_hidden_words.Goals as goal

pub returns : goal.returns
returns c =
    hidden_told _ _ _ _ _ c.args.y c.args.layout.now c.push_words.result (c.as_bytes.ensures.value ∙ c.format.ensures.text) (c.as_bytes-2.ensures.value ∙ c.format-2.ensures.text)
    (c.as_bytes-3.ensures.value ∙ c.format-3.ensures.text) c.push_words.ensures
