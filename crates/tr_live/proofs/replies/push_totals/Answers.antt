use Rattle.tr_live.proofs.replies.push_totals.Goals as goal

pub returns : goal.returns
returns c = rw (c.as_bytes.ensures, c.compose_totals.ensures.text, c.totals.ensures.totals) at c.push.ensures.ok
