use Rattle.std.proofs.Common.{◌∙◌, sym, subst, refl}
use Rattle.std.specs.Prelude.{IfOk}
use Rattle.tr_model.specs.Choices.{Choice}
use Rattle.tr_model.specs.Compare.{Permits}
use Rattle.tr_model.specs.declared.events.Event.{Event}
use Rattle.tr_model.specs.declared.events.Event.TheVariants.{CloneThread, StarterWait, Tgkill}
use Rattle.tr_steps.specs.UnderWay.{IsStepOf}
use Rattle.tr_kernel.proofs.Checks.{same_id, same_report}
use Rattle.tr_kernel.proofs.events.change_rarely.Goals as goal

pub returns-in-Tgkill-clause-did : goal.returns-in-Tgkill-clause-did
returns-in-Tgkill-clause-did c =
    let e : Event = Tgkill c.in-Tgkill.tgid c.in-Tgkill.tid c.in-Tgkill.sig in
    let h = subst (λ (x : Event). Permits c.args.step.now.work.table c.args.actor x c.args.choice) c.in-Tgkill.is c.requires.due in
    let made : Event → Choice → Type 0 = λ x y. IfOk c.tgkill.result (IsStepOf c.args.step.now.work.table (record { actor = c.args.actor; event = x; choice = y }) c.tgkill.new.step) in
    subst (λ x. made x c.args.choice) (sym c.in-Tgkill.is) (subst (made e) (sym h.admitted) c.tgkill.ensures.did)

pub unwrap-requires : goal.unwrap-requires
unwrap-requires c =
    let T = c.args.step.now.work.table in
    let h = subst (λ (e : Event). Permits T c.args.actor e c.args.choice) c.in-CloneThread.is c.requires.due in
    let n = h.admitted in
    rw (c.new_id.ensures, n.1) refl

pub clone_thread-requires : goal.clone_thread-requires
clone_thread-requires c =
    let T = c.args.step.now.work.table in
    let h = subst (λ (e : Event). Permits T c.args.actor e c.args.choice) c.in-CloneThread.is c.requires.due in
    let n = h.admitted in
    let k = same_id c.args.choice n.0 c.unwrap.result n.1 (sym c.new_id.ensures ∙ c.unwrap.ensures) in
    record { due = subst (λ (y : Choice). Permits T c.args.actor (CloneThread c.in-CloneThread.tid) y) k h }

pub returns-in-CloneThread-clause-did : goal.returns-in-CloneThread-clause-did
returns-in-CloneThread-clause-did c =
    let T = c.args.step.now.work.table in
    let h = subst (λ (e : Event). Permits T c.args.actor e c.args.choice) c.in-CloneThread.is c.requires.due in
    let n = h.admitted in
    let k = same_id c.args.choice n.0 c.unwrap.result n.1 (sym c.new_id.ensures ∙ c.unwrap.ensures) in
    let e : Event = CloneThread c.in-CloneThread.tid in
    let made : Event → Choice → Type 0 = λ x y. IfOk c.clone_thread.result (IsStepOf T (record { actor = c.args.actor; event = x; choice = y }) c.clone_thread.new.step) in
    subst (λ x. made x c.args.choice) (sym c.in-CloneThread.is) (subst (made e) (sym k) c.clone_thread.ensures.did)

pub unwrap-requires-in-StarterWait : goal.unwrap-requires-in-StarterWait
unwrap-requires-in-StarterWait c =
    let T = c.args.step.now.work.table in
    let h = subst (λ (e : Event). Permits T c.args.actor e c.args.choice) c.in-StarterWait.is c.requires.due in
    let n = h.admitted in
    rw (c.report.ensures, n.1) refl

pub starter_wait-requires : goal.starter_wait-requires
starter_wait-requires c =
    let T = c.args.step.now.work.table in
    let h = subst (λ (e : Event). Permits T c.args.actor e c.args.choice) c.in-StarterWait.is c.requires.due in
    let n = h.admitted in
    let k = same_report c.args.choice n.0 c.unwrap-in-StarterWait.result n.1 (sym c.report.ensures ∙ c.unwrap-in-StarterWait.ensures) in
    record { due = subst (λ (y : Choice). Permits T c.args.actor (StarterWait c.in-StarterWait.which c.in-StarterWait.flags) y) k h }

pub returns-in-StarterWait-clause-did : goal.returns-in-StarterWait-clause-did
returns-in-StarterWait-clause-did c =
    let T = c.args.step.now.work.table in
    let h = subst (λ (e : Event). Permits T c.args.actor e c.args.choice) c.in-StarterWait.is c.requires.due in
    let n = h.admitted in
    let k = same_report c.args.choice n.0 c.unwrap-in-StarterWait.result n.1 (sym c.report.ensures ∙ c.unwrap-in-StarterWait.ensures) in
    let e : Event = StarterWait c.in-StarterWait.which c.in-StarterWait.flags in
    let made : Event → Choice → Type 0 = λ x y. IfOk c.starter_wait.result (IsStepOf T (record { actor = c.args.actor; event = x; choice = y }) c.starter_wait.new.step) in
    subst (λ x. made x c.args.choice) (sym c.in-StarterWait.is) (subst (made e) (sym k) c.starter_wait.ensures.did)
