use Rattle.std.proofs.Common.{◌∙◌, ap, rules}
use Rattle.tr_model.specs.Preferred.{check}
use Rattle.tr_kernel.proofs.kernels.Kernel.call.Goals as goal

pub call_checked-requires-clause-checked : goal.call_checked-requires-clause-checked
call_checked-requires-clause-checked c =
    c.check-checked.ensures ∙ ap (λ T. check T c.args.actor c.args.event) (search rules)
