use Rattle.std.proofs.Common.{Ok, subst}
use Rattle.tr_model.specs.Compare.{IsLet}
use Rattle.tr_kernel.specs.Heard.{call_of}
use Rattle.tr_kernel.specs.States.{State}
use Rattle.tr_kernel.proofs.Heard.{heard_made, let_permits, waiting_accepted}
use Rattle.tr_kernel.proofs.kernels.Kernel.hear_reply.Goals as goal

pub is_admitted-requires-clause-numbered : goal.is_admitted-requires-clause-numbered
is_admitted-requires-clause-numbered c = waiting_accepted _ c.self.invariant.0

pub step_as-requires : goal.step_as-requires
step_as-requires c =
    let told = subst (λ (k : State). IsLet k.table (call_of c.args.actor c.args.event.now) (Ok c.args.told.now)) c.self.view_is (c.is_admitted.ensures.0 c.if-not-is_admitted.false) in
    record { due = let_permits c.args.self.now c.args.actor c.args.event.now c.args.told.now c.choice_of.result c.choice_of.ensures c.requires.due told }

pub returns-in-Ok-clause-heard : goal.returns-in-Ok-clause-heard
returns-in-Ok-clause-heard c =
    let told = subst (λ (k : State). IsLet k.table (call_of c.args.actor c.args.event.now) (Ok c.args.told.now)) c.self.view_is (c.is_admitted.ensures.0 c.if-not-is_admitted.false) in
    heard_made c.args.self.now c.step_as.new.self c.args.actor c.args.event.now c.args.told.now c.in-Ok.field-0 c.choice_of.result c.choice_of.ensures c.requires.due told c.in-Ok.ensures.ok
