use Rattle.std.proofs.Common.{◌≡◌, ◌==◌, ◌<◌, ◌∙◌, ℕ, List, ap, length, get_or, if◌then◌else◌, subst, sym}
use Rattle.std.proofs.lemmas.List.{get_or_default}
use Rattle.tr_tracee.specs.declared.thread.Thread.{Thread}
use Rattle.tr_threads.specs.Alike.{Turns}
use Rattle.tr_threads.specs.Changes.{thread_changed_by}
use Rattle.tr_threads.specs.declared.thread_changes.Turned.TheVariants as turned
use Rattle.tr_threads.specs.Rosters.{rewritten, roster_in}
use Rattle.tr_threads.specs.Tracing.{IsTracing}
use Rattle.tr_threads.proofs.Alike.{counts_by_report, words_by_report}
use Rattle.tr_threads.proofs.Formerly.{put_back}
use Rattle.tr_threads.proofs.Keeping.{same_changed, same_ids}
use Rattle.tr_threads.proofs.RosterLists.{unwritten}
use Rattle.tr_threads.proofs.Rostering.{has_row, kept_written}
use Rattle.tr_threads.proofs.Tracings.{places_written}
use Rattle.tr_threads.proofs.threads.Threads.change_report.Goals as goal

pub rewrite_report-requires-clause-kept : goal.rewrite_report-requires-clause-kept
rewrite_report-requires-clause-kept c =
    let i = c.self.inside in
    subst (λ (us : List Thread). IsTracing us i.tracing) (sym (put_back i.list.items c.deref.result.now c.args.place c.index.result.now c.make.new.thread c.deref.ensures.value c.index.ensures)) c.self.invariant.traced

pub rewrite_report-requires-clause-indexed : goal.rewrite_report-requires-clause-indexed
rewrite_report-requires-clause-indexed c =
    let i = c.self.inside in
    let within : c.args.place < length i.list.items = subst (λ (us : List Thread). c.args.place < length us) (sym c.self.view_is) c.requires.place in
    c.self.invariant.rostered.indexed ∙ sym (same_ids c.args.change.now i.list.items c.deref.result.now c.args.place c.index.result.now c.make.new.thread c.index_mut.result.now within c.deref.ensures.value c.make.ensures c.index_mut.ensures.value)

pub invariant_of-self : goal.invariant_of-self
invariant_of-self c =
    let i = c.self.inside in
    let ts = i.list.items in
    let p = c.args.place in
    let x = c.index.result.now in
    let y = c.make.new.thread in
    let z = c.index_mut.result.now in
    let within : p < length ts = subst (λ (us : List Thread). p < length us) (sym c.self.view_is) c.requires.place in
    let here : z ≡ get_or ts p x = c.index_mut.ensures.value ∙ get_or_default ts p z x within in
    let id : y.id ≡ (get_or ts p x).id = ap (λ (t : Thread). t.id) c.make.ensures ∙ ((same_changed c.args.change.now z).id ∙ ap (λ (t : Thread). t.id) here) in
    let group : y.group ≡ (get_or ts p x).group = ap (λ (t : Thread). t.group) c.make.ensures ∙ ((same_changed c.args.change.now z).group ∙ ap (λ (t : Thread). t.group) here) in
    let old : Thread = get_or ts p x in
    let becomes : y ≡ thread_changed_by c.args.change.now old = c.make.ensures ∙ ap (thread_changed_by c.args.change.now) here in
    let turns : thread_changed_by c.args.change.now old ≡ record old { report = (thread_changed_by c.args.change.now old).report } = subst (λ (us : List Thread). Turns turned.Report (get_or us p x) (thread_changed_by c.args.change.now (get_or us p x))) (sym c.self.view_is) (c.requires.turned x) in
    let report : y ≡ record old { report = y.report } = becomes ∙ (turns ∙ ap (λ (t : Thread). record old { report = t.report }) (sym becomes)) in
    let told : (g : ℕ) → roster_in i.rosters g ≡ (if old.group == g then rewritten old y (roster_in i.rosters g) else roster_in i.rosters g) =
    λ g. unwritten old y (words_by_report old y report) (counts_by_report old y report) old.group g i.rosters (has_row ts i.index i.rosters c.self.invariant.rostered p x within) in
    record {
      rostered = kept_written ts i.index i.rosters c.self.invariant.rostered i.rosters p x y within id group told;
      traced = subst (λ (us : List Thread). IsTracing us c.rewrite_report.new.self) c.deref.ensures.value c.rewrite_report.ensures.kept;
      places = places_written ts p y c.rewrite_report.new.self (c.rewrite_report.ensures.places (length ts) c.self.invariant.places);
    }
