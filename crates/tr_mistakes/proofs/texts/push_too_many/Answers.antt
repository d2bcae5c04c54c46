use Rattle.tr_mistakes.proofs.texts.push_too_many.Goals as goal

pub returns : goal.returns
returns c = rw (c.as_bytes.ensures, c.prepend-2.ensures.text, c.prepend_number.ensures.text, c.prepend.ensures.text, c.new-text.ensures.text) at c.push.ensures.ok
