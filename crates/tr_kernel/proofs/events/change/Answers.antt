use Rattle.std.proofs.Common.{◌∙◌, sym, subst, refl}
use Rattle.std.specs.Prelude.{IfOk}
use Rattle.tr_model.specs.Choices.{Choice}
use Rattle.tr_model.specs.Compare.{Permits}
use Rattle.tr_model.specs.declared.events.Event.{Event}
use Rattle.tr_model.specs.declared.events.Event.TheVariants.{TakeAny, Wait}
use Rattle.tr_steps.specs.UnderWay.{IsStepOf}
use Rattle.tr_kernel.proofs.Checks.{same_report, same_take_by}
use Rattle.tr_kernel.proofs.events.change.Goals as goal

pub unwrap-requires : goal.unwrap-requires
unwrap-requires c =
    let T = c.args.step.now.work.table in
    let h = subst (λ (e : Event). Permits T c.args.actor e c.args.choice) c.in-Take.is c.requires.due in
    let n = h.admitted in
    rw (c.instance.ensures, n.1) refl

pub unwrap-requires-in-TakeAny : goal.unwrap-requires-in-TakeAny
unwrap-requires-in-TakeAny c =
    let T = c.args.step.now.work.table in
    let h = subst (λ (e : Event). Permits T c.args.actor e c.args.choice) c.in-TakeAny.is c.requires.due in
    let n = h.admitted in
    rw (c.thread.ensures, n.2) refl

pub unwrap-requires-in-TakeAny-2 : goal.unwrap-requires-in-TakeAny-2
unwrap-requires-in-TakeAny-2 c =
    let T = c.args.step.now.work.table in
    let h = subst (λ (e : Event). Permits T c.args.actor e c.args.choice) c.in-TakeAny.is c.requires.due in
    let n = h.admitted in
    rw (c.instance-in-TakeAny.ensures, n.2) refl

pub take_any-requires : goal.take_any-requires
take_any-requires c =
    let T = c.args.step.now.work.table in
    let h = subst (λ (e : Event). Permits T c.args.actor e c.args.choice) c.in-TakeAny.is c.requires.due in
    let n = h.admitted in
    let k = same_take_by c.args.choice n.0 n.1 c.unwrap-in-TakeAny.result c.unwrap-in-TakeAny-2.result n.2 (sym c.thread.ensures ∙ c.unwrap-in-TakeAny.ensures) (sym c.instance-in-TakeAny.ensures ∙ c.unwrap-in-TakeAny-2.ensures) in
    record { due = subst (λ (y : Choice). Permits T c.args.actor (TakeAny c.in-TakeAny.tgid) y) k h }

pub returns-in-TakeAny-clause-did : goal.returns-in-TakeAny-clause-did
returns-in-TakeAny-clause-did c =
    let T = c.args.step.now.work.table in
    let h = subst (λ (e : Event). Permits T c.args.actor e c.args.choice) c.in-TakeAny.is c.requires.due in
    let n = h.admitted in
    let k = same_take_by c.args.choice n.0 n.1 c.unwrap-in-TakeAny.result c.unwrap-in-TakeAny-2.result n.2 (sym c.thread.ensures ∙ c.unwrap-in-TakeAny.ensures) (sym c.instance-in-TakeAny.ensures ∙ c.unwrap-in-TakeAny-2.ensures) in
    let e : Event = TakeAny c.in-TakeAny.tgid in
    let made : Event → Choice → Type 0 = λ x y. IfOk c.take_any.result (IsStepOf T (record { actor = c.args.actor; event = x; choice = y }) c.take_any.new.step) in
    subst (λ x. made x c.args.choice) (sym c.in-TakeAny.is) (subst (made e) (sym k) c.take_any.ensures.did)

pub unwrap-requires-in-Wait : goal.unwrap-requires-in-Wait
unwrap-requires-in-Wait c =
    let T = c.args.step.now.work.table in
    let h = subst (λ (e : Event). Permits T c.args.actor e c.args.choice) c.in-Wait.is c.requires.due in
    let n = h.admitted in
    rw (c.report.ensures, n.1) refl

pub wait-requires : goal.wait-requires
wait-requires c =
    let T = c.args.step.now.work.table in
    let h = subst (λ (e : Event). Permits T c.args.actor e c.args.choice) c.in-Wait.is c.requires.due in
    let n = h.admitted in
    let k = same_report c.args.choice n.0 c.unwrap-in-Wait.result n.1 (sym c.report.ensures ∙ c.unwrap-in-Wait.ensures) in
    record { due = subst (λ (y : Choice). Permits T c.args.actor (Wait c.in-Wait.which) y) k h }

pub returns-in-Wait-clause-did : goal.returns-in-Wait-clause-did
returns-in-Wait-clause-did c =
    let T = c.args.step.now.work.table in
    let h = subst (λ (e : Event). Permits T c.args.actor e c.args.choice) c.in-Wait.is c.requires.due in
    let n = h.admitted in
    let k = same_report c.args.choice n.0 c.unwrap-in-Wait.result n.1 (sym c.report.ensures ∙ c.unwrap-in-Wait.ensures) in
    let e : Event = Wait c.in-Wait.which in
    let made : Event → Choice → Type 0 = λ x y. IfOk c.wait.result (IsStepOf T (record { actor = c.args.actor; event = x; choice = y }) c.wait.new.step) in
    subst (λ x. made x c.args.choice) (sym c.in-Wait.is) (subst (made e) (sym k) c.wait.ensures.did)
