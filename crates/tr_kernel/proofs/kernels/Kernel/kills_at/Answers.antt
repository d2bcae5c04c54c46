use Rattle.tr_kernel.proofs.Noticed.{kills_exactly}
use Rattle.tr_kernel.proofs.kernels.Kernel.kills_at.Goals as goal

pub returns : goal.returns
returns c =
    let at = rw (c.self.invariant.1.notes) at c.note_at.ensures.at in
    rw (c.is_killed.ensures, ← c.self.view_is) (kills_exactly _ _ c.args.position c.note_at.result c.note_at.ensures.none at)
