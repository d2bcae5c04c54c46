use Rattle.std.proofs.Common.{sym, ◌∙◌}
use Rattle.tr_kernel.proofs.kernels.Kernel.new.Goals as goal

pub open-requires : goal.open-requires
open-requires c = sym c.is_good.ensures ∙ c.if-not-is_good.false
