use Rattle.std.proofs.Common.{◌≡◌, ◌+◌, ◌∙◌, Bool, None, Some, is_some, ap, refl, rules, subst, sym}
use Rattle.tr_index.specs.Counts.{bool_to_nat}
use Rattle.tr_threads.specs.declared.tracing.Tracing.{Tracing}
use Rattle.tr_threads.specs.Alike.{StandAlike}
use Rattle.tr_threads.specs.Tracing.{RecountsDeath, tracer, waiter}
use Rattle.tr_threads.proofs.Alike.{traced_by_same}
use Rattle.tr_threads.proofs.Rewritten.{counted, not_stray, reports_alike, reports_now, reports_told, told_by_tracer, waits_if, waits_not}
use Rattle.tr_threads.proofs.tracing.Tracing.rewrite_report.Goals as goal

pub returns-then-had-has-clause-kept : goal.returns-then-had-has-clause-kept
returns-then-had-has-clause-kept c =
    let x = c.args.former.now in
    let y = c.index-threads-place.result in
    let alike : StandAlike x y = subst (StandAlike x) (sym c.index-threads-place.is) (c.requires.alike y) in
    let reports : is_some x.report ≡ is_some y.report = search rules in
    reports_alike c.args.threads.now x y c.args.place c.args.index.now c.args.self.now c.requires.kept c.requires.room c.requires.indexed c.requires.once c.requires.place c.index-threads-place.is c.requires.same alike reports

pub recount_deaths-requires : goal.recount_deaths-requires
recount_deaths-requires c = counted c.args.threads.now c.args.former.now c.index-threads-place.result c.args.place c.args.index.now c.args.self.now c.requires.kept c.requires.room c.requires.indexed c.requires.once c.requires.place c.index-threads-place.is c.requires.same

pub returns-in_default-clause-kept : goal.returns-in_default-clause-kept
returns-in_default-clause-kept c =
    let x = c.args.former.now in
    let y = c.index-threads-place.result in
    let v = c.args.self.now in
    let w = c.recount_deaths.new.self in
    let alike : StandAlike x y = subst (StandAlike x) (sym c.index-threads-place.is) (c.requires.alike y) in
    let untraced : tracer y ≡ None = sym c.tracer.ensures ∙ c.in_default.is in
    reports_told c.args.threads.now x y c.args.place c.args.index.now v c.requires.kept c.requires.room c.requires.indexed c.requires.once c.requires.place c.index-threads-place.is c.requires.same w None None alike
    (waits_not x (traced_by_same x y alike ∙ untraced)) (waits_not y untraced) (ap (λ l. l.rows.items) c.recount_deaths.ensures.tracees) (ap (λ l. l.rows.items) c.recount_deaths.ensures.reporting) c.recount_deaths.ensures.deaths

pub relist-requires : goal.relist-requires
relist-requires c =
    let x = c.args.former.now in
    let y = c.index-threads-place.result in
    let alike : StandAlike x y = subst (StandAlike x) (sym c.index-threads-place.is) (c.requires.alike y) in
    let traced : tracer y ≡ Some c.in-Some.tracer = sym c.tracer.ensures ∙ c.in-Some.is in
    let before : c.waiter_if-before.result ≡ waiter x = waits_if x c.in-Some.tracer c.is_some-had.result c.waiter_if-before.result c.waiter_if-before.ensures c.is_some-had.ensures (traced_by_same x y alike ∙ traced) in
    let after : c.waiter_if-after.result ≡ waiter y = waits_if y c.in-Some.tracer c.is_some-has.result c.waiter_if-after.result c.waiter_if-after.ensures c.is_some-has.ensures traced in
    reports_now c.args.threads.now x y c.args.place c.args.index.now c.args.self.now c.requires.kept c.requires.room c.requires.indexed c.requires.once c.requires.place c.index-threads-place.is c.requires.same c.waiter_if-before.result c.waiter_if-after.result before after

pub returns-clause-kept : goal.returns-clause-kept
returns-clause-kept c =
    let x = c.args.former.now in
    let y = c.index-threads-place.result in
    let v = c.args.self.now in
    let alike : StandAlike x y = subst (StandAlike x) (sym c.index-threads-place.is) (c.requires.alike y) in
    let traced : tracer y ≡ Some c.in-Some.tracer = sym c.tracer.ensures ∙ c.in-Some.is in
    let before : c.waiter_if-before.result ≡ waiter x = waits_if x c.in-Some.tracer c.is_some-had.result c.waiter_if-before.result c.waiter_if-before.ensures c.is_some-had.ensures (traced_by_same x y alike ∙ traced) in
    let after : c.waiter_if-after.result ≡ waiter y = waits_if y c.in-Some.tracer c.is_some-has.result c.waiter_if-after.result c.waiter_if-after.ensures c.is_some-has.ensures traced in
    let w : Tracing = record { tracees = v.tracees; reporting = c.relist.new.self; untraced_deaths = v.untraced_deaths; stray_deaths = v.stray_deaths } in
    let deaths : RecountsDeath x y v w = record {
      untraced = ap (λ (b : Bool). v.untraced_deaths + bool_to_nat b) (told_by_tracer x c.in-Some.tracer (traced_by_same x y alike ∙ traced) ∙ sym (told_by_tracer y c.in-Some.tracer traced));
      stray = ap (λ (b : Bool). v.stray_deaths + bool_to_nat b) (not_stray x c.in-Some.tracer (traced_by_same x y alike ∙ traced) ∙ sym (not_stray y c.in-Some.tracer traced));
    } in
    reports_told c.args.threads.now x y c.args.place c.args.index.now v c.requires.kept c.requires.room c.requires.indexed c.requires.once c.requires.place c.index-threads-place.is c.requires.same w c.waiter_if-before.result c.waiter_if-after.result alike before after refl c.relist.ensures.rows deaths
