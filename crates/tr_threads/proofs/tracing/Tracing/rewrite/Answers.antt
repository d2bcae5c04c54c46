use Rattle.std.proofs.Common.{◌∙◌, ap, arith, rules}
use Rattle.tr_threads.specs.Tracing.{CountsDeath, IsUnkept}
use Rattle.tr_threads.proofs.Rewritten.{counted, reports_now, still_unkept, told, traces_now}
use Rattle.tr_threads.proofs.tracing.Tracing.rewrite.Goals as goal

pub returns-then-not-may_be_kept-2-clause-kept : goal.returns-then-not-may_be_kept-2-clause-kept
returns-then-not-may_be_kept-2-clause-kept c =
    let x = c.args.former.now in
    let y = c.index-threads-place.result in
    let before : IsUnkept x = search rules in
    let after : IsUnkept y = search rules in
    still_unkept c.args.threads.now x y c.args.place c.args.index.now c.args.self.now c.requires.kept c.requires.room c.requires.indexed c.requires.once c.requires.place c.index-threads-place.is c.requires.same before after

pub relist-requires : goal.relist-requires
relist-requires c =
    traces_now c.args.threads.now c.args.former.now c.index-threads-place.result c.args.place c.args.index.now c.args.self.now c.requires.kept c.requires.room c.requires.indexed c.requires.once c.requires.place c.index-threads-place.is c.requires.same
    c.tracer-tracer.result c.tracer.result c.tracer-tracer.ensures c.tracer.ensures

pub relist-requires-2 : goal.relist-requires-2
relist-requires-2 c =
    reports_now c.args.threads.now c.args.former.now c.index-threads-place.result c.args.place c.args.index.now c.args.self.now c.requires.kept c.requires.room c.requires.indexed c.requires.once c.requires.place c.index-threads-place.is c.requires.same
    c.waiter_of-waiter.result c.waiter_of.result c.waiter_of-waiter.ensures c.waiter_of.ensures

pub recount_deaths-requires : goal.recount_deaths-requires
recount_deaths-requires c =
    let counts : CountsDeath c.args.former.now c.args.self.now = counted c.args.threads.now c.args.former.now c.index-threads-place.result c.args.place c.args.index.now c.args.self.now c.requires.kept c.requires.room c.requires.indexed c.requires.once c.requires.place c.index-threads-place.is c.requires.same in
    record {
      untraced = counts.untraced;
      stray = counts.stray;
      untraced_few = omega (arith, counts.untraced_few, c.relist.ensures.places);
      stray_few = omega (arith, counts.stray_few, c.relist.ensures.places);
    }

pub returns-clause-kept : goal.returns-clause-kept
returns-clause-kept c =
    let w = c.recount_deaths.new.self in
    told c.args.threads.now c.args.former.now c.index-threads-place.result c.args.place c.args.index.now c.args.self.now c.requires.kept c.requires.room c.requires.indexed c.requires.once c.requires.place c.index-threads-place.is c.requires.same w
    c.tracer-tracer.result c.tracer.result c.waiter_of-waiter.result c.waiter_of.result c.tracer-tracer.ensures c.tracer.ensures c.waiter_of-waiter.ensures c.waiter_of.ensures
    (ap (λ l. l.rows.items) c.recount_deaths.ensures.tracees ∙ c.relist.ensures.rows) (ap (λ l. l.rows.items) c.recount_deaths.ensures.reporting ∙ c.relist-2.ensures.rows)
    (record { untraced = c.recount_deaths.ensures.deaths.untraced; stray = c.recount_deaths.ensures.deaths.stray })
