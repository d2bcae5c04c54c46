use Rattle.tr_mistakes.proofs.wholes.push_thread_twice.Goals as goal

pub returns : goal.returns
returns c gs = rw (c.as_bytes.ensures, c.prepend-2.ensures.text, c.prepend_number.ensures.text, c.prepend.ensures.text, c.new-text.ensures.text, c.from.ensures) at c.push.ensures.ok
