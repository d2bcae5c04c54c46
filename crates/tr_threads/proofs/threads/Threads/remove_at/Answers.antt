use Rattle.std.proofs.Common.{◌≡◌, ◌==◌, ◌<◌, ℕ, List, length, remove, if◌then◌else◌, arith, ap, subst, sym}
use Rattle.tr_tracee.specs.declared.thread.Thread.{Thread}
use Rattle.tr_threads.specs.Rosters.{Counts, roster_in, unless_empty, without}
use Rattle.tr_threads.proofs.ThreadLists.{ids_length}
use Rattle.tr_threads.proofs.Rostering.{is_counted, is_small, kept_gone}
use Rattle.tr_threads.specs.Tracing.{IsTracing}
use Rattle.tr_threads.proofs.Tracings.{places_gone}
use Rattle.tr_threads.proofs.threads.Threads.remove_at.Goals as goal

pub remove-requires : goal.remove-requires
remove-requires c =
    let xs = c.self.inside.list.items in
    let within : c.args.place < length xs = subst (λ (ts : List Thread). c.args.place < length ts) (sym c.self.view_is) c.requires in
    omega (arith, within, ap (λ (ns : List ℕ). length ns) c.self.invariant.rostered.indexed, ids_length xs)

pub remove-requires-2-clause-small : goal.remove-requires-2-clause-small
remove-requires-2-clause-small c = let i = c.self.inside in is_small i.list.items i.index i.rosters c.self.invariant.rostered c.remove-removed.result.group

pub remove-requires-2-clause-counts : goal.remove-requires-2-clause-counts
remove-requires-2-clause-counts c =
    let i = c.self.inside in
    let within : c.args.place < length i.list.items = subst (λ (ts : List Thread). c.args.place < length ts) (sym c.self.view_is) c.requires in
    subst (λ (t : Thread). Counts t (roster_in i.rosters t.group)) (sym c.remove-removed.ensures.value) (is_counted i.list.items i.index i.rosters c.self.invariant.rostered c.args.place c.remove-removed.result within)

pub invariant_of-self : goal.invariant_of-self
invariant_of-self c =
    let i = c.self.inside in
    let within : c.args.place < length i.list.items = subst (λ (ts : List Thread). c.args.place < length ts) (sym c.self.view_is) c.requires in
    let told = subst (λ (t : Thread). (g : ℕ) → roster_in c.remove-2.new.self g ≡ (if t.group == g then unless_empty (without t (roster_in i.rosters g)) else roster_in i.rosters g)) c.remove-removed.ensures.value c.remove-2.ensures in
    record {
      rostered = rw c.remove-removed.ensures.items (kept_gone i.list.items i.index i.rosters c.self.invariant.rostered c.remove.new.self c.remove-2.new.self c.args.place c.remove-removed.result within c.remove.ensures told);
      traced = rw c.remove-removed.ensures.items (subst (λ (us : List Thread). IsTracing (remove us c.args.place) c.forget.new.self) c.deref.ensures.value c.forget.ensures.kept);
      places = rw c.remove-removed.ensures.items (places_gone i.list.items c.args.place c.forget.new.self within (c.forget.ensures.places (length i.list.items) c.self.invariant.places));
    }
