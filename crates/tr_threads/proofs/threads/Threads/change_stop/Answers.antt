use Rattle.std.proofs.Common.{◌≡◌, ◌==◌, ◌<◌, ◌≤◌, ◌∙◌, ℕ, List, ap, length, get_or, if◌then◌else◌, subst, sym}
use Rattle.std.proofs.lemmas.List.{get_or-set_same, get_or_default}
use Rattle.tr_tracee.specs.declared.thread.Thread.{Thread}
use Rattle.tr_index.specs.Counts.{bool_to_nat}
use Rattle.tr_threads.specs.Alike.{StandAlike}
use Rattle.tr_threads.specs.Changes.{thread_changed_by}
use Rattle.tr_threads.specs.Rosters.{HasRow, rewritten, roster_in, with_marks}
use Rattle.tr_threads.specs.Tracing.{IsTracing}
use Rattle.tr_threads.proofs.Formerly.{put_back}
use Rattle.tr_threads.proofs.Keeping.{same_changed, same_ids}
use Rattle.tr_threads.proofs.RosterLists.{marks_in}
use Rattle.tr_threads.proofs.Rostering.{has_row, is_counted, is_once, is_small, is_there, kept_written}
use Rattle.tr_threads.proofs.Tracings.{places_written}
use Rattle.tr_threads.proofs.threads.Threads.change_stop.Goals as goal

pub rewrite_marks-requires-clause-there : goal.rewrite_marks-requires-clause-there
rewrite_marks-requires-clause-there c =
    let i = c.self.inside in
    let ts = i.list.items in
    let p = c.args.place in
    let x = c.index.result.now in
    let y = c.make.new.thread in
    let z = c.index_mut.result.now in
    let within : p < length ts = subst (λ (us : List Thread). p < length us) (sym c.self.view_is) c.requires.place in
    let here : z ≡ get_or ts p x = c.index_mut.ensures.value ∙ get_or_default ts p z x within in
    let read : c.index-2.result.now ≡ y = c.index-2.ensures ∙ get_or-set_same ts p y c.index-2.result.now within in
    let group : y.group ≡ (get_or ts p x).group = ap (λ (t : Thread). t.group) c.make.ensures ∙ ((same_changed c.args.change.now z).group ∙ ap (λ (t : Thread). t.group) here) in
    subst (λ (n : ℕ). 0 < length (roster_in i.rosters n).ids) (sym (ap (λ (t : Thread). t.group) read ∙ group)) (is_there ts i.index i.rosters c.self.invariant.rostered p x within)

pub rewrite_marks-requires-clause-once : goal.rewrite_marks-requires-clause-once
rewrite_marks-requires-clause-once c = let i = c.self.inside in is_once i.list.items i.index i.rosters c.self.invariant.rostered c.index-2.result.now.id c.index-2.result.now.group

pub rewrite_marks-requires-clause-few : goal.rewrite_marks-requires-clause-few
rewrite_marks-requires-clause-few c = let i = c.self.inside in (is_small i.list.items i.index i.rosters c.self.invariant.rostered c.index-2.result.now.group).marked

pub rewrite_marks-requires-clause-counted : goal.rewrite_marks-requires-clause-counted
rewrite_marks-requires-clause-counted c =
    let i = c.self.inside in
    let ts = i.list.items in
    let p = c.args.place in
    let x = c.index.result.now in
    let y = c.make.new.thread in
    let z = c.index_mut.result.now in
    let within : p < length ts = subst (λ (us : List Thread). p < length us) (sym c.self.view_is) c.requires.place in
    let here : z ≡ get_or ts p x = c.index_mut.ensures.value ∙ get_or_default ts p z x within in
    let read : c.index-2.result.now ≡ y = c.index-2.ensures ∙ get_or-set_same ts p y c.index-2.result.now within in
    let group : y.group ≡ (get_or ts p x).group = ap (λ (t : Thread). t.group) c.make.ensures ∙ ((same_changed c.args.change.now z).group ∙ ap (λ (t : Thread). t.group) here) in
    let was : bool_to_nat (get_or ts p x).stop_mark ≤ (roster_in i.rosters (get_or ts p x).group).marked = (is_counted ts i.index i.rosters c.self.invariant.rostered p x within).marked in
    subst (λ (n : ℕ). bool_to_nat x.stop_mark ≤ (roster_in i.rosters n).marked) (sym (ap (λ (t : Thread). t.group) read ∙ group)) (subst (λ (t : Thread). bool_to_nat t.stop_mark ≤ (roster_in i.rosters (get_or ts p x).group).marked) (sym c.index.ensures) was)

pub rewrite_report-requires-clause-kept : goal.rewrite_report-requires-clause-kept
rewrite_report-requires-clause-kept c =
    let i = c.self.inside in
    subst (λ (us : List Thread). IsTracing us i.tracing) (sym (put_back i.list.items c.deref.result.now c.args.place c.index.result.now c.make.new.thread c.deref.ensures.value c.index.ensures)) c.self.invariant.traced

pub rewrite_report-requires-clause-indexed : goal.rewrite_report-requires-clause-indexed
rewrite_report-requires-clause-indexed c =
    let i = c.self.inside in
    let within : c.args.place < length i.list.items = subst (λ (us : List Thread). c.args.place < length us) (sym c.self.view_is) c.requires.place in
    c.self.invariant.rostered.indexed ∙ sym (same_ids c.args.change.now i.list.items c.deref.result.now c.args.place c.index.result.now c.make.new.thread c.index_mut.result.now within c.deref.ensures.value c.make.ensures c.index_mut.ensures.value)

pub invariant_of-self : goal.invariant_of-self
invariant_of-self c =
    let i = c.self.inside in
    let ts = i.list.items in
    let p = c.args.place in
    let x = c.index.result.now in
    let y = c.make.new.thread in
    let z = c.index_mut.result.now in
    let within : p < length ts = subst (λ (us : List Thread). p < length us) (sym c.self.view_is) c.requires.place in
    let here : z ≡ get_or ts p x = c.index_mut.ensures.value ∙ get_or_default ts p z x within in
    let read : c.index-2.result.now ≡ y = c.index-2.ensures ∙ get_or-set_same ts p y c.index-2.result.now within in
    let id : y.id ≡ (get_or ts p x).id = ap (λ (t : Thread). t.id) c.make.ensures ∙ ((same_changed c.args.change.now z).id ∙ ap (λ (t : Thread). t.id) here) in
    let group : y.group ≡ (get_or ts p x).group = ap (λ (t : Thread). t.group) c.make.ensures ∙ ((same_changed c.args.change.now z).group ∙ ap (λ (t : Thread). t.group) here) in
    let old : Thread = get_or ts p x in
    let becomes : thread_changed_by c.args.change.now old ≡ y = sym (c.make.ensures ∙ ap (thread_changed_by c.args.change.now) here) in
    let turns : StandAlike old (thread_changed_by c.args.change.now old) = subst (λ (us : List Thread). StandAlike (get_or us p x) (thread_changed_by c.args.change.now (get_or us p x))) (sym c.self.view_is) (c.requires.turned x) in
    let alike : StandAlike old y = subst (StandAlike old) becomes turns in
    let row : HasRow old (roster_in i.rosters old.group) = has_row ts i.index i.rosters c.self.invariant.rostered p x within in
    let marks : (g : ℕ) → roster_in c.rewrite_marks.new.self g ≡ (if old.group == g then with_marks old.stop_mark y (roster_in i.rosters g) else roster_in i.rosters g) =
    λ g. subst (λ (t : Thread). roster_in c.rewrite_marks.new.self g ≡ (if t.group == g then with_marks x.stop_mark t (roster_in i.rosters g) else roster_in i.rosters g)) read (c.rewrite_marks.ensures g)
    ∙ (λ j. if group j == g then with_marks (c.index.ensures j).stop_mark y (roster_in i.rosters g) else roster_in i.rosters g) in
    let told : (g : ℕ) → roster_in c.rewrite_marks.new.self g ≡ (if old.group == g then rewritten old y (roster_in i.rosters g) else roster_in i.rosters g) =
    λ g. marks g ∙ marks_in old y alike id old.group g i.rosters row in
    record {
      rostered = kept_written ts i.index i.rosters c.self.invariant.rostered c.rewrite_marks.new.self p x y within id group told;
      traced = subst (λ (us : List Thread). IsTracing us c.rewrite_report.new.self) c.deref.ensures.value c.rewrite_report.ensures.kept;
      places = places_written ts p y c.rewrite_report.new.self (c.rewrite_report.ensures.places (length ts) c.self.invariant.places);
    }
