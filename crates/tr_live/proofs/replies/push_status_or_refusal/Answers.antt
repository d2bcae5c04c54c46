use Rattle.std.proofs.Common.{◌≡◌, None, sym}
use Rattle.tr_model.specs.Tables.{thread_of}
use Rattle.tr_live.proofs.replies.push_status_or_refusal.Goals as goal

pub returns-in-None : goal.returns-in-None
returns-in-None c =
    let none : thread_of c.args.table.now.table c.args.tid ≡ None = sym c.in-None.ensures.found in
    rw none (c.push_no_thread.ensures c.args.table.now.table)
