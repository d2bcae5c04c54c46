use Rattle.std.proofs.Common.{◌≡◌, ◌==◌, ◌<◌, ◌∙◌, ℕ, List, ap, length, get_or, if◌then◌else◌, subst, sym}
use Rattle.std.proofs.lemmas.List.{get_or-set_same, get_or_default}
use Rattle.tr_tracee.specs.declared.thread.Thread.{Thread}
use Rattle.tr_threads.specs.Rosters.{Counts, HasRow, rewritten, roster_in}
use Rattle.tr_threads.specs.Tracing.{IsTracing}
use Rattle.tr_threads.proofs.Formerly.{put_back}
use Rattle.tr_threads.proofs.Keeping.{same_changed, same_ids}
use Rattle.tr_threads.proofs.Rostering.{has_row, is_counted, is_once, is_small, is_there, kept_written}
use Rattle.tr_threads.proofs.Tracings.{places_written}
use Rattle.tr_threads.proofs.threads.Threads.change_all.Goals as goal

pub rewrite-requires-clause-there : goal.rewrite-requires-clause-there
rewrite-requires-clause-there c =
    let i = c.self.inside in
    let within : c.args.place < length i.list.items = subst (λ (ts : List Thread). c.args.place < length ts) (sym c.self.view_is) c.requires in
    subst (λ (t : Thread). 0 < length (roster_in i.rosters t.group).ids) (sym c.index.ensures) (is_there i.list.items i.index i.rosters c.self.invariant.rostered c.args.place c.index.result.now within)

pub rewrite-requires-clause-once : goal.rewrite-requires-clause-once
rewrite-requires-clause-once c = let i = c.self.inside in is_once i.list.items i.index i.rosters c.self.invariant.rostered c.index.result.now.id c.index.result.now.group

pub rewrite-requires-clause-row : goal.rewrite-requires-clause-row
rewrite-requires-clause-row c =
    let i = c.self.inside in
    let within : c.args.place < length i.list.items = subst (λ (ts : List Thread). c.args.place < length ts) (sym c.self.view_is) c.requires in
    subst (λ (t : Thread). HasRow t (roster_in i.rosters t.group)) (sym c.index.ensures) (has_row i.list.items i.index i.rosters c.self.invariant.rostered c.args.place c.index.result.now within)

pub rewrite-requires-clause-small : goal.rewrite-requires-clause-small
rewrite-requires-clause-small c = let i = c.self.inside in is_small i.list.items i.index i.rosters c.self.invariant.rostered c.index.result.now.group

pub rewrite-requires-clause-counts : goal.rewrite-requires-clause-counts
rewrite-requires-clause-counts c =
    let i = c.self.inside in
    let within : c.args.place < length i.list.items = subst (λ (ts : List Thread). c.args.place < length ts) (sym c.self.view_is) c.requires in
    subst (λ (t : Thread). Counts t (roster_in i.rosters t.group)) (sym c.index.ensures) (is_counted i.list.items i.index i.rosters c.self.invariant.rostered c.args.place c.index.result.now within)

pub rewrite-requires-2-clause-kept : goal.rewrite-requires-2-clause-kept
rewrite-requires-2-clause-kept c =
    let i = c.self.inside in
    subst (λ (us : List Thread). IsTracing us i.tracing) (sym (put_back i.list.items c.deref.result.now c.args.place c.index.result.now c.make.new.thread c.deref.ensures.value c.index.ensures)) c.self.invariant.traced

pub rewrite-requires-2-clause-indexed : goal.rewrite-requires-2-clause-indexed
rewrite-requires-2-clause-indexed c =
    let i = c.self.inside in
    let within : c.args.place < length i.list.items = subst (λ (us : List Thread). c.args.place < length us) (sym c.self.view_is) c.requires in
    c.self.invariant.rostered.indexed ∙ sym (same_ids c.args.change.now i.list.items c.deref.result.now c.args.place c.index.result.now c.make.new.thread c.index_mut.result.now within c.deref.ensures.value c.make.ensures c.index_mut.ensures.value)

pub invariant_of-self : goal.invariant_of-self
invariant_of-self c =
    let i = c.self.inside in
    let ts = i.list.items in
    let p = c.args.place in
    let x = c.index.result.now in
    let y = c.make.new.thread in
    let z = c.index_mut.result.now in
    let within : p < length ts = subst (λ (us : List Thread). p < length us) (sym c.self.view_is) c.requires in
    let here : z ≡ get_or ts p x = c.index_mut.ensures.value ∙ get_or_default ts p z x within in
    let id : y.id ≡ (get_or ts p x).id = ap (λ (t : Thread). t.id) c.make.ensures ∙ ((same_changed c.args.change.now z).id ∙ ap (λ (t : Thread). t.id) here) in
    let group : y.group ≡ (get_or ts p x).group = ap (λ (t : Thread). t.group) c.make.ensures ∙ ((same_changed c.args.change.now z).group ∙ ap (λ (t : Thread). t.group) here) in
    let read : c.index-2.result.now ≡ y = c.index-2.ensures ∙ get_or-set_same ts p y c.index-2.result.now within in
    let told = subst (λ (t : Thread). (g : ℕ) → roster_in c.rewrite.new.self g ≡ (if t.group == g then rewritten t y (roster_in i.rosters g) else roster_in i.rosters g)) c.index.ensures
    (subst (λ (u : Thread). (g : ℕ) → roster_in c.rewrite.new.self g ≡ (if x.group == g then rewritten x u (roster_in i.rosters g) else roster_in i.rosters g)) read c.rewrite.ensures) in
    record {
      rostered = kept_written ts i.index i.rosters c.self.invariant.rostered c.rewrite.new.self p x y within id group told;
      traced = subst (λ (us : List Thread). IsTracing us c.rewrite-2.new.self) c.deref.ensures.value c.rewrite-2.ensures.kept;
      places = places_written ts p y c.rewrite-2.new.self (c.rewrite-2.ensures.places (length ts) c.self.invariant.places);
    }
