use Rattle.std.proofs.Common.{◌∙◌, ap, subst, sym}
use Rattle.tracebox.specs.declared.faults.Fault.{Fault}
use Rattle.tracebox.specs.Faults.{fault_status}
use Rattle.tracebox.specs.Performing.{Tells}
use Rattle.tracebox.proofs.performing.perform_words.Goals as goal

pub returns-in-Err-clause-memory : goal.returns-in-Err-clause-memory
returns-in-Err-clause-memory g c =
    rw c.in-Err.is (λ h.
    let f = c.words_fault.ensures.memory (c.kind.ensures ∙ h) in
    (c.report.ensures.status ∙ ap fault_status f, subst (λ (x : Fault). Tells g.E.Sink.taken g.E.Sink.failures c.args.faults.now c.report.new.faults x) f c.report.ensures.told))

pub returns-in-Err-clause-usage : goal.returns-in-Err-clause-usage
returns-in-Err-clause-usage g c =
    rw c.in-Err.is (λ h.
    let f = c.words_fault.ensures.usage (λ k. h (sym c.kind.ensures ∙ k)) in
    (c.report.ensures.status ∙ ap fault_status f, subst (λ (x : Fault). Tells g.E.Sink.taken g.E.Sink.failures c.args.faults.now c.report.new.faults x) f c.report.ensures.told))
