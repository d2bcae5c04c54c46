use Rattle.std.proofs.Common.{append-nil}
use Rattle.tr_status.proofs.statuses.write_thread.Goals as goal

pub returns : goal.returns
returns g c =
    rw (c.as_bytes.ensures, c.prepend_status.ensures.text, c.new-text.ensures.text, append-nil) at c.put_all.ensures
