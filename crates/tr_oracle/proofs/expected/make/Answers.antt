use Rattle.std.proofs.Common.{◌∙◌, Result, subst, sym}
use Rattle.tr_model.specs.declared.replies.Refusal.{Refusal}
use Rattle.tr_model.specs.declared.replies.Reply.{Reply}
use Rattle.tr_kernel.proofs.Histories.{permits}
use Rattle.tr_kernel.specs.Heard.{call_of}
use Rattle.tr_oracle.specs.Expected.{HasGiven, MayAnswer}
use Rattle.tr_oracle.proofs.Expecting.{ahead, idle, made}
use Rattle.tr_oracle.proofs.expected.make.Goals as goal

pub step_as-requires : goal.step_as-requires
step_as-requires c =
    let k = c.args.kernel.now in
    record { due = permits k c.args.actor c.args.event.now c.in-Some.choice c.requires.history (ahead k (call_of c.args.actor c.args.event.now) c.in-Some.choice (sym c.requires.choice ∙ c.in-Some.is)).0 }

pub returns-in_default-clause-may : goal.returns-in_default-clause-may
returns-in_default-clause-may c =
    let k = c.args.kernel.now in
    let call = call_of c.args.actor c.args.event.now in
    subst (λ (x : Result Reply Refusal). MayAnswer k call x) (sym c.requires.foreseen) (idle k call (sym c.requires.choice ∙ c.in_default.is)).0

pub returns-in_default-clause-given : goal.returns-in_default-clause-given
returns-in_default-clause-given c =
    let k = c.args.kernel.now in
    let call = call_of c.args.actor c.args.event.now in
    subst (λ (x : Result Reply Refusal). HasGiven k call x k) (sym c.requires.foreseen) (idle k call (sym c.requires.choice ∙ c.in_default.is)).1

pub returns-in-Ok-clause-may : goal.returns-in-Ok-clause-may
returns-in-Ok-clause-may c =
    let k = c.args.kernel.now in
    let call = call_of c.args.actor c.args.event.now in
    let done = made k c.step_as.new.self call c.in-Some.choice c.in-Ok.field-0 (sym c.requires.choice ∙ c.in-Some.is) c.in-Ok.ensures.ok in
    subst (λ (x : Result Reply Refusal). MayAnswer k call x) (sym c.requires.foreseen) done.0

pub returns-in-Ok-clause-given : goal.returns-in-Ok-clause-given
returns-in-Ok-clause-given c =
    let k = c.args.kernel.now in
    let call = call_of c.args.actor c.args.event.now in
    let done = made k c.step_as.new.self call c.in-Some.choice c.in-Ok.field-0 (sym c.requires.choice ∙ c.in-Some.is) c.in-Ok.ensures.ok in
    subst (λ (x : Result Reply Refusal). HasGiven k call x c.step_as.new.self) (sym c.requires.foreseen) done.1
