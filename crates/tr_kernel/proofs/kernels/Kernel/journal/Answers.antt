use Rattle.tr_kernel.proofs.Histories.{one_fate_of, one_wait_of}
use Rattle.tr_kernel.proofs.kernels.Kernel.journal.Goals as goal

pub returns-clause-one_fate : goal.returns-clause-one_fate
returns-clause-one_fate c = rw (← c.self.view_is) (one_fate_of _ c.self.invariant.0)

pub returns-clause-one_wait : goal.returns-clause-one_wait
returns-clause-one_wait c = rw (← c.self.view_is) (one_wait_of _ c.self.invariant.0)
