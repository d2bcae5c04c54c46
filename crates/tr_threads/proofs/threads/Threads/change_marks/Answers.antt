use Rattle.std.proofs.Common.{◌≡◌, ◌==◌, ◌<◌, ◌≤◌, ◌∙◌, ℕ, List, ap, length, get_or, if◌then◌else◌, is_some, subst, sym}
use Rattle.std.proofs.lemmas.List.{get_or-set_same}
use Rattle.tr_tracee.specs.declared.thread.Thread.{Thread}
use Rattle.tr_threads.specs.Alike.{StandAlike, Turns}
use Rattle.tr_threads.specs.Changes.{thread_changed_by}
use Rattle.tr_threads.specs.declared.thread_changes.Turned.TheVariants as turned
use Rattle.tr_index.specs.Counts.{bool_to_nat}
use Rattle.tr_threads.specs.Rosters.{HasRow, rewritten, roster_in, with_marks}
use Rattle.tr_threads.proofs.Alike.{death_alike, stray_alike, traced_by_same, waited_by_same}
use Rattle.tr_threads.proofs.Keeping.{same_changed}
use Rattle.tr_threads.proofs.RosterLists.{marks_in}
use Rattle.tr_threads.proofs.Rostering.{has_row, is_counted, is_once, is_small, is_there, kept_written}
use Rattle.tr_threads.proofs.Tracings.{places_written, traced_alike}
use Rattle.tr_threads.proofs.threads.Threads.change_marks.Goals as goal

pub rewrite_marks-requires-clause-there : goal.rewrite_marks-requires-clause-there
rewrite_marks-requires-clause-there c =
    let i = c.self.inside in
    let ts = i.list.items in
    let p = c.args.place in
    let x = c.index_mut-thread.result.now in
    let y = c.make.new.thread in
    let within : p < length ts = subst (λ (us : List Thread). p < length us) (sym c.self.view_is) c.requires.place in
    let at : x ≡ get_or ts p x = c.index_mut-thread.ensures.value in
    let read : c.index.result.now ≡ y = c.index.ensures ∙ get_or-set_same ts p y c.index.result.now within in
    let group : c.index.result.now.group ≡ (get_or ts p x).group = ap (λ (t : Thread). t.group) (read ∙ c.make.ensures) ∙ ((same_changed c.args.change.now x).group ∙ ap (λ (t : Thread). t.group) at) in
    subst (λ (g : ℕ). 0 < length (roster_in i.rosters g).ids) (sym group) (is_there ts i.index i.rosters c.self.invariant.rostered p x within)

pub rewrite_marks-requires-clause-once : goal.rewrite_marks-requires-clause-once
rewrite_marks-requires-clause-once c = let i = c.self.inside in is_once i.list.items i.index i.rosters c.self.invariant.rostered c.index.result.now.id c.index.result.now.group

pub rewrite_marks-requires-clause-few : goal.rewrite_marks-requires-clause-few
rewrite_marks-requires-clause-few c = let i = c.self.inside in (is_small i.list.items i.index i.rosters c.self.invariant.rostered c.index.result.now.group).marked

pub rewrite_marks-requires-clause-counted : goal.rewrite_marks-requires-clause-counted
rewrite_marks-requires-clause-counted c =
    let i = c.self.inside in
    let ts = i.list.items in
    let p = c.args.place in
    let x = c.index_mut-thread.result.now in
    let y = c.make.new.thread in
    let within : p < length ts = subst (λ (us : List Thread). p < length us) (sym c.self.view_is) c.requires.place in
    let at : x ≡ get_or ts p x = c.index_mut-thread.ensures.value in
    let read : c.index.result.now ≡ y = c.index.ensures ∙ get_or-set_same ts p y c.index.result.now within in
    let group : c.index.result.now.group ≡ (get_or ts p x).group = ap (λ (t : Thread). t.group) (read ∙ c.make.ensures) ∙ ((same_changed c.args.change.now x).group ∙ ap (λ (t : Thread). t.group) at) in
    let was : bool_to_nat (get_or ts p x).stop_mark ≤ (roster_in i.rosters (get_or ts p x).group).marked = (is_counted ts i.index i.rosters c.self.invariant.rostered p x within).marked in
    subst (λ (g : ℕ). bool_to_nat x.stop_mark ≤ (roster_in i.rosters g).marked) (sym group) (subst (λ (t : Thread). bool_to_nat t.stop_mark ≤ (roster_in i.rosters (get_or ts p x).group).marked) (sym at) was)

pub invariant_of-self : goal.invariant_of-self
invariant_of-self c =
    let i = c.self.inside in
    let ts = i.list.items in
    let p = c.args.place in
    let x = c.index_mut-thread.result.now in
    let y = c.make.new.thread in
    let within : p < length ts = subst (λ (us : List Thread). p < length us) (sym c.self.view_is) c.requires.place in
    let at : x ≡ get_or ts p x = c.index_mut-thread.ensures.value in
    let read : c.index.result.now ≡ y = c.index.ensures ∙ get_or-set_same ts p y c.index.result.now within in
    let id : y.id ≡ (get_or ts p x).id = ap (λ (t : Thread). t.id) c.make.ensures ∙ ((same_changed c.args.change.now x).id ∙ ap (λ (t : Thread). t.id) at) in
    let group : y.group ≡ (get_or ts p x).group = ap (λ (t : Thread). t.group) c.make.ensures ∙ ((same_changed c.args.change.now x).group ∙ ap (λ (t : Thread). t.group) at) in
    let becomes : thread_changed_by c.args.change.now x ≡ y = sym c.make.ensures in
    let turns = subst (λ (t : Thread). Turns turned.Marks t (thread_changed_by c.args.change.now t)) (sym at)
    (subst (λ (us : List Thread). Turns turned.Marks (get_or us p x) (thread_changed_by c.args.change.now (get_or us p x))) (sym c.self.view_is) (c.requires.turned x)) in
    let alike : StandAlike x y = subst (StandAlike x) becomes turns.0 in
    let reports : is_some x.report ≡ is_some y.report = ap is_some (turns.1 ∙ ap (λ (t : Thread). t.report) becomes) in
    let row : HasRow x (roster_in i.rosters x.group) = subst (λ (t : Thread). HasRow t (roster_in i.rosters t.group)) (sym at) (has_row ts i.index i.rosters c.self.invariant.rostered p x within) in
    let marks : (g : ℕ) → roster_in c.rewrite_marks.new.self g ≡ (if x.group == g then with_marks x.stop_mark y (roster_in i.rosters g) else roster_in i.rosters g) =
    λ g. subst (λ (t : Thread). roster_in c.rewrite_marks.new.self g ≡ (if t.group == g then with_marks x.stop_mark t (roster_in i.rosters g) else roster_in i.rosters g)) read (c.rewrite_marks.ensures g)
    ∙ ap (λ (n : ℕ). if n == g then with_marks x.stop_mark y (roster_in i.rosters g) else roster_in i.rosters g) (group ∙ ap (λ (t : Thread). t.group) (sym at)) in
    let told : (g : ℕ) → roster_in c.rewrite_marks.new.self g ≡ (if (get_or ts p x).group == g then rewritten (get_or ts p x) y (roster_in i.rosters g) else roster_in i.rosters g) =
    λ g. marks g ∙ (marks_in x y alike (id ∙ ap (λ (t : Thread). t.id) (sym at)) x.group g i.rosters row ∙ ap (λ (t : Thread). if t.group == g then rewritten t y (roster_in i.rosters g) else roster_in i.rosters g) at) in
    record {
      rostered = kept_written ts i.index i.rosters c.self.invariant.rostered c.rewrite_marks.new.self p x y within id group told;
      traced = traced_alike ts i.index i.tracing c.self.invariant.traced c.self.invariant.places c.self.invariant.rostered.indexed c.self.invariant.rostered.once p x within at y id (traced_by_same x y alike) (waited_by_same x y alike reports) (death_alike x y alike reports) (stray_alike x y alike reports);
      places = places_written ts p y i.tracing c.self.invariant.places;
    }
