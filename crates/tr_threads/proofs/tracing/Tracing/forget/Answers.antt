use Rattle.std.proofs.Common.{ap, arith}
use Rattle.tr_index.specs.Counts.{bool_to_nat}
use Rattle.tr_threads.specs.declared.tracing.Tracing.{Tracing}
use Rattle.tr_threads.specs.Tracing.{CountsDeath}
use Rattle.tr_threads.proofs.Tracings.{counts_death, may_untrace, may_withdraw, traced_gone}
use Rattle.tr_threads.proofs.tracing.Tracing.forget.Goals as goal

pub relist-requires : goal.relist-requires
relist-requires c = may_untrace c.args.threads.now c.args.index.now c.args.self.now c.requires.kept c.requires.room c.requires.indexed c.requires.once c.args.place c.index-threads-place.result c.requires.place c.index-threads-place.is c.tracer-tracer.result c.tracer-tracer.ensures

pub relist-requires-2 : goal.relist-requires-2
relist-requires-2 c = may_withdraw c.args.threads.now c.args.index.now c.args.self.now c.requires.kept c.requires.room c.requires.indexed c.requires.once c.args.place c.index-threads-place.result c.requires.place c.index-threads-place.is c.waiter_of-waiter.result c.waiter_of-waiter.ensures

pub recounted-self-requires-clause-was : goal.recounted-self-requires-clause-was
recounted-self-requires-clause-was c =
    let counts : CountsDeath c.index-threads-place.result c.args.self.now = counts_death c.args.threads.now c.args.index.now c.args.self.now c.requires.kept c.requires.room c.requires.indexed c.requires.once c.args.place c.index-threads-place.result c.requires.place c.index-threads-place.is in
    omega (arith, ap bool_to_nat c.is_untraced_death.ensures, counts.untraced)

pub recounted-self-requires-clause-few : goal.recounted-self-requires-clause-few
recounted-self-requires-clause-few c =
    let counts : CountsDeath c.index-threads-place.result c.args.self.now = counts_death c.args.threads.now c.args.index.now c.args.self.now c.requires.kept c.requires.room c.requires.indexed c.requires.once c.args.place c.index-threads-place.result c.requires.place c.index-threads-place.is in
    omega (arith, counts.untraced_few, c.args.self.now.tracees.rows.small)

pub recounted-self-requires-2-clause-was : goal.recounted-self-requires-2-clause-was
recounted-self-requires-2-clause-was c =
    let counts : CountsDeath c.index-threads-place.result c.args.self.now = counts_death c.args.threads.now c.args.index.now c.args.self.now c.requires.kept c.requires.room c.requires.indexed c.requires.once c.args.place c.index-threads-place.result c.requires.place c.index-threads-place.is in
    omega (arith, ap bool_to_nat c.is_stray_death.ensures, counts.stray)

pub recounted-self-requires-2-clause-few : goal.recounted-self-requires-2-clause-few
recounted-self-requires-2-clause-few c =
    let counts : CountsDeath c.index-threads-place.result c.args.self.now = counts_death c.args.threads.now c.args.index.now c.args.self.now c.requires.kept c.requires.room c.requires.indexed c.requires.once c.args.place c.index-threads-place.result c.requires.place c.index-threads-place.is in
    omega (arith, counts.stray_few, c.args.self.now.tracees.rows.small)

pub returns-clause-kept : goal.returns-clause-kept
returns-clause-kept c =
    let x = c.index-threads-place.result in
    let w : Tracing = record { tracees = c.relist.new.self; reporting = c.relist-2.new.self; untraced_deaths = c.recounted-self.result; stray_deaths = c.recounted-self-2.result } in
    traced_gone c.args.threads.now c.args.index.now c.args.self.now c.requires.kept c.requires.room c.requires.indexed c.requires.once c.args.place x c.requires.place c.index-threads-place.is x.id w c.tracer-tracer.result c.waiter_of-waiter.result
    c.tracer-tracer.ensures c.waiter_of-waiter.ensures c.relist.ensures.rows c.relist-2.ensures.rows
    (omega (arith, c.recounted-self.ensures, ap bool_to_nat c.is_untraced_death.ensures))
    (omega (arith, c.recounted-self-2.ensures, ap bool_to_nat c.is_stray_death.ensures))
