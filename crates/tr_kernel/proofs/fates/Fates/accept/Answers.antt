use Rattle.std.proofs.Common.{◌∙◌, ap, sym}
use Rattle.tr_kernel.specs.Private.{counts_of}
use Rattle.tr_kernel.proofs.Tallied.{counts_more}
use Rattle.tr_kernel.proofs.fates.Fates.accept.Goals as goal

pub invariant_of-self : goal.invariant_of-self
invariant_of-self c =
    c.self.invariant ∙ counts_more c.self.inside.list.items c.args.more ∙ ap counts_of (sym c.append_pending.ensures.items)
