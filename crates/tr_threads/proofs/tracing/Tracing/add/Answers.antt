use Rattle.std.proofs.Common.{◌∙◌, ap, arith}
use Rattle.tr_index.specs.Counts.{bool_to_nat}
use Rattle.tr_threads.specs.declared.tracing.Tracing.{Tracing}
use Rattle.tr_threads.specs.TraceeLists.{with_last}
use Rattle.tr_threads.proofs.Tracings.{traced_added}
use Rattle.tr_threads.proofs.tracing.Tracing.add.Goals as goal

pub push-requires-clause-rises : goal.push-requires-clause-rises
push-requires-clause-rises c = c.requires.tracees_rise

pub push-requires-2-clause-rises : goal.push-requires-2-clause-rises
push-requires-2-clause-rises c = c.requires.reporting_rise

pub returns-clause-kept : goal.returns-clause-kept
returns-clause-kept c ts kept =
    let v = c.args.self.now in
    let t = c.args.thread.now in
    let w : Tracing = record { tracees = c.push.new.self; reporting = c.push-2.new.self; untraced_deaths = c.recounted-self.result; stray_deaths = c.recounted-self-2.result } in
    traced_added ts v w t kept
    (c.push.ensures.rows ∙ ap (λ o. with_last o t.id v.tracees.rows.items) c.tracer.ensures)
    (c.push-2.ensures.rows ∙ ap (λ o. with_last o t.id v.reporting.rows.items) c.waiter_of.ensures)
    (omega (arith, c.recounted-self.ensures, ap bool_to_nat c.is_untraced_death.ensures))
    (omega (arith, c.recounted-self-2.ensures, ap bool_to_nat c.is_stray_death.ensures))
