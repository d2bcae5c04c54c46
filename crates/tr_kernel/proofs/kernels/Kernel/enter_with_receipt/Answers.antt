use Rattle.std.proofs.Common.{◌≡◌, ◌∙◌, ap, arith, refl}
use Rattle.tr_model.specs.Tables.{Table}
use Rattle.tr_kernel.proofs.kernels.Kernel.enter_with_receipt.Goals as goal

pub returns-clause-receipt : goal.returns-clause-receipt
returns-clause-receipt c =
    let few = c.step_as.ensures.bounded in
    let had : c.accepted-accepted.result ≡ c.args.self.now.table.accepted = c.accepted-accepted.ensures ∙ ap (λ (t : Table). t.accepted) c.table.ensures in
    let has : c.accepted.result ≡ c.step_as.new.self.table.accepted = c.accepted.ensures ∙ ap (λ (t : Table). t.accepted) c.table-2.ensures in
    record { event = refl; position = c.position.ensures; accepted = omega (arith, few.grows, had, has); few = omega (arith, few.few, had, has) }
