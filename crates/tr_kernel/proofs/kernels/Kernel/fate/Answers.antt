use Rattle.tr_kernel.proofs.Histories.{fate_is, has_fate, only_fate}
use Rattle.tr_kernel.proofs.kernels.Kernel.fate.Goals as goal

pub returns-clause-fate : goal.returns-clause-fate
returns-clause-fate c = rw (← c.self.view_is) (fate_is _ c.self.invariant.0 c.args.number c.at.result c.at.ensures.none c.at.ensures.at)

pub returns-clause-has : goal.returns-clause-has
returns-clause-has c =
    rw (← c.self.view_is, fate_is _ c.self.invariant.0 c.args.number c.at.result c.at.ensures.none c.at.ensures.at) (has_fate _ c.self.invariant.0 c.args.number)

pub returns-clause-only : goal.returns-clause-only
returns-clause-only c =
    rw (← c.self.view_is, fate_is _ c.self.invariant.0 c.args.number c.at.result c.at.ensures.none c.at.ensures.at) (only_fate _ c.self.invariant.0 c.args.number)
