use Rattle.tr_mistakes.proofs.parts.push_whole_number.Goals as goal

pub returns : goal.returns
returns c = rw (c.as_bytes.ensures, c.prepend-3.ensures.text, c.prepend_number-2.ensures.text, c.prepend-2.ensures.text, c.prepend_number.ensures.text, c.prepend.ensures.text, c.new-text.ensures.text, c.from.ensures, c.from-2.ensures) at c.push.ensures.ok
