use Rattle.tr_threads.specs.TraceeLists.{rank, stands_before}
use Rattle.tr_threads.proofs.Parted.{parted_gone}
use Rattle.tr_threads.proofs.tracee_list.TraceeList.relist.Goals as goal
use Rattle.tr_threads.proofs.tracee_list.TraceeList.relist.Goals.{in-Some, in_default}

pub put_in-requires-clause-parted : goal.put_in-requires-clause-parted
put_in-requires-clause-parted c =
    let f = stands_before c.args.index.now c.in-Some-after.tracer c.args.place in
    let ls = c.args.self.now.rows.items in
    elim c.match-before.branch [
      | in-Some w ↦ rw (w.self-is, w.take_out.ensures.items) (parted_gone f ls (rank c.args.index.now w.in-Some.tracer c.args.place ls) (c.requires.there w.in-Some.tracer w.in-Some.is) (c.requires.parted c.in-Some-after.tracer))
      | in_default w ↦ rw w.self-is (c.requires.parted c.in-Some-after.tracer)
    ]
