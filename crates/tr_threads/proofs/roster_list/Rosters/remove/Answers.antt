use Rattle.std.proofs.Common.{◌≡◌, ◌==◌, false, true, ◌∙◌, ℕ, List, ap, if◌then◌else◌, length, refl, remove, sym}
use Rattle.std.specs.List.{zip}
use Rattle.std.proofs.lemmas.List.{get_or-set_same}
use Rattle.tr_threads.specs.Rosters.{RosterView, roster_in, unless_empty, without}
use Rattle.tr_threads.proofs.RosterLists.{at_itself, is_absent, is_found, is_gone, is_within, is_written, none_left, set_then_removed, some_left, stays}
use Rattle.tr_threads.proofs.roster_list.Rosters.remove.Goals as goal

pub returns-in_default : goal.returns-in_default
returns-in_default c = λ h.
    let t = c.args.thread.now in
    stays t.group h (λ r. unless_empty (without t r)) c.args.self.now (is_absent t.group c.self.inside.index c.self.inside.list.items c.args.self.now c.place.result c.self.invariant c.self.view_is c.place.ensures.at c.in_default.is) refl

pub remove-requires-clause-small : goal.remove-requires-clause-small
remove-requires-clause-small c =
    let its : c.index_mut.result.now ≡ roster_in c.args.self.now c.args.thread.now.group = c.index_mut.ensures.value ∙ is_found c.args.thread.now.group c.self.inside.index c.self.inside.list.items c.args.self.now c.place.result c.self.invariant c.self.view_is c.place.ensures.at c.in-Some.place c.index_mut.result.now c.in-Some.is in
    rw its c.requires.small

pub remove-requires-clause-counts : goal.remove-requires-clause-counts
remove-requires-clause-counts c =
    let its : c.index_mut.result.now ≡ roster_in c.args.self.now c.args.thread.now.group = c.index_mut.ensures.value ∙ is_found c.args.thread.now.group c.self.inside.index c.self.inside.list.items c.args.self.now c.place.result c.self.invariant c.self.view_is c.place.ensures.at c.in-Some.place c.index_mut.result.now c.in-Some.is in
    rw its c.requires.counts

pub returns-then-is_empty : goal.returns-then-is_empty
returns-then-is_empty c = λ h.
    let t = c.args.thread.now in
    let v : List (ℕ × RosterView) = c.args.self.now in
    let rs : List RosterView = c.self.inside.list.items in
    let p : ℕ = c.in-Some.place in
    let left : RosterView = c.remove.new.self in
    let its : c.index_mut.result.now ≡ roster_in v t.group = c.index_mut.ensures.value ∙ is_found t.group c.self.inside.index c.self.inside.list.items c.args.self.now c.place.result c.self.invariant c.self.view_is c.place.ensures.at c.in-Some.place c.index_mut.result.now c.in-Some.is in
    let made : left ≡ without t (roster_in v t.group) = c.remove.ensures ∙ ap (without t) its in
    let read : c.index.result.now ≡ left = c.index.ensures ∙ get_or-set_same rs p left c.index.result.now (is_within t.group c.self.inside.index c.self.inside.list.items c.args.self.now c.place.result c.self.invariant c.self.view_is c.place.ensures.at p c.in-Some.is) in
    let size : (length c.behind-self.inside.ids.items == 0) ≡ (length left.ids == 0) = ap (λ (r : RosterView). length r.ids == 0) (c.behind-self.view_is ∙ read) in
    let empty : (length left.ids == 0) ≡ true = sym size ∙ (sym c.is_empty.ensures ∙ c.if-is_empty.true) in
    let items : c.remove-empty.new.self.items ≡ remove rs p = c.remove-empty.ensures.items ∙ set_then_removed rs p left in
    (λ j. roster_in (zip (c.remove-then-is_empty.ensures j) (items j)) h)
    ∙ (is_gone t.group c.self.inside.index c.self.inside.list.items c.args.self.now c.place.result c.self.invariant c.self.view_is c.place.ensures.at p h c.place.ensures.once c.in-Some.is
    ∙ (ap (λ (r : RosterView). if t.group == h then r else roster_in v h) (none_left left empty ∙ ap unless_empty made) ∙ at_itself t.group h (λ r. unless_empty (without t r)) v))

pub returns-else-is_empty : goal.returns-else-is_empty
returns-else-is_empty c = λ h.
    let t = c.args.thread.now in
    let v : List (ℕ × RosterView) = c.args.self.now in
    let rs : List RosterView = c.self.inside.list.items in
    let p : ℕ = c.in-Some.place in
    let left : RosterView = c.remove.new.self in
    let its : c.index_mut.result.now ≡ roster_in v t.group = c.index_mut.ensures.value ∙ is_found t.group c.self.inside.index c.self.inside.list.items c.args.self.now c.place.result c.self.invariant c.self.view_is c.place.ensures.at c.in-Some.place c.index_mut.result.now c.in-Some.is in
    let made : left ≡ without t (roster_in v t.group) = c.remove.ensures ∙ ap (without t) its in
    let read : c.index.result.now ≡ left = c.index.ensures ∙ get_or-set_same rs p left c.index.result.now (is_within t.group c.self.inside.index c.self.inside.list.items c.args.self.now c.place.result c.self.invariant c.self.view_is c.place.ensures.at p c.in-Some.is) in
    let size : (length c.behind-self.inside.ids.items == 0) ≡ (length left.ids == 0) = ap (λ (r : RosterView). length r.ids == 0) (c.behind-self.view_is ∙ read) in
    let some : (length left.ids == 0) ≡ false = sym size ∙ (sym c.is_empty.ensures ∙ c.if-is_empty.false) in
    is_written t.group c.self.inside.index c.self.inside.list.items c.args.self.now c.place.result c.self.invariant c.self.view_is c.place.ensures.at p h left c.in-Some.is
    ∙ (ap (λ (r : RosterView). if t.group == h then r else roster_in v h) (some_left left some ∙ ap unless_empty made) ∙ at_itself t.group h (λ r. unless_empty (without t r)) v)
