use Rattle.std.proofs.Common.{append-nil}
use Rattle.tr_live.proofs.replies.push_status.Goals as goal

pub returns : goal.returns
returns c = rw (c.as_bytes.ensures, c.prepend_status.ensures.text, c.new-text.ensures.text, append-nil) at c.push.ensures.ok
