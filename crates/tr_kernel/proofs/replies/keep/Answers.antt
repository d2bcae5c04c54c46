use Rattle.tr_kernel.proofs.replies.keep.Goals as goal
use Rattle.tr_kernel.proofs.replies.keep.Goals.{in-Some-brief_of, in-None}

pub returns-clause-held : goal.returns-clause-held
returns-clause-held c = elim c.match-brief_of.branch [
  | in-Some-brief_of w ↦ rw (w.wholes-is, w.result-is) (w.in-Some-brief_of.ensures.held c.args.wholes.now.items)
  | in-None w ↦ rw (w.wholes-is, w.result-is) w.keep_alone.ensures.held
]
