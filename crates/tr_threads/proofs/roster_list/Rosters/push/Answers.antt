use Rattle.std.proofs.Common.{◌≡◌, ◌==◌, ◌++◌, ◌∷◌, ◌∙◌, [], ℕ, List, ap, if◌then◌else◌, sym}
use Rattle.std.specs.List.{zip}
use Rattle.tr_threads.specs.Rosters.{RosterView, no_one, roster_in, with_last}
use Rattle.tr_threads.proofs.RosterLists.{at_itself, is_absent, is_found, is_new, is_pushed, is_written}
use Rattle.tr_threads.proofs.roster_list.Rosters.push.Goals as goal

pub push-requires-clause-room : goal.push-requires-clause-room
push-requires-clause-room c =
    let its : c.index_mut.result.now ≡ roster_in c.args.self.now c.args.thread.now.group = c.index_mut.ensures.value ∙ is_found c.args.thread.now.group c.self.inside.index c.self.inside.list.items c.args.self.now c.place.result c.self.invariant c.self.view_is c.place.ensures.at c.in-Some.place c.index_mut.result.now c.in-Some.is in
    rw its c.requires.room

pub push-requires-clause-small : goal.push-requires-clause-small
push-requires-clause-small c =
    let its : c.index_mut.result.now ≡ roster_in c.args.self.now c.args.thread.now.group = c.index_mut.ensures.value ∙ is_found c.args.thread.now.group c.self.inside.index c.self.inside.list.items c.args.self.now c.place.result c.self.invariant c.self.view_is c.place.ensures.at c.in-Some.place c.index_mut.result.now c.in-Some.is in
    rw its c.requires.small

pub push-requires-in-None-2 : goal.push-requires-in-None-2
push-requires-in-None-2 c = is_new c.args.thread.now.group c.self.inside.index c.self.inside.list.items c.args.self.now c.place.result c.self.invariant c.self.view_is c.place.ensures.at c.in-None.is

pub returns-in-Some-clause-ok : goal.returns-in-Some-clause-ok
returns-in-Some-clause-ok c = λ h.
    let t = c.args.thread.now in
    let v : List (ℕ × RosterView) = c.args.self.now in
    let its : c.index_mut.result.now ≡ roster_in v t.group = c.index_mut.ensures.value ∙ is_found t.group c.self.inside.index c.self.inside.list.items c.args.self.now c.place.result c.self.invariant c.self.view_is c.place.ensures.at c.in-Some.place c.index_mut.result.now c.in-Some.is in
    is_written t.group c.self.inside.index c.self.inside.list.items c.args.self.now c.place.result c.self.invariant c.self.view_is c.place.ensures.at c.in-Some.place h c.push.new.self c.in-Some.is
    ∙ (ap (λ (r : RosterView). if t.group == h then r else roster_in v h) (c.push.ensures ∙ ap (with_last t) its) ∙ at_itself t.group h (with_last t) v)

pub returns-in_ok-push-in-None-clause-ok : goal.returns-in_ok-push-in-None-clause-ok
returns-in_ok-push-in-None-clause-ok c = λ h.
    let t = c.args.thread.now in
    let v : List (ℕ × RosterView) = c.args.self.now in
    let ids : List ℕ = c.self.inside.index in
    let rs : List RosterView = c.self.inside.list.items in
    let new : RosterView = c.push-in-None.new.self in
    let keys : c.push-in-None-2.new.self ≡ ids ++ t.group ∷ [] = c.in_ok-push-in-None.ensures.ok in
    let items : c.push_reserved.new.self.items ≡ rs ++ new ∷ [] = c.push_reserved.ensures.items ∙ ap (λ (xs : List RosterView). xs ++ new ∷ []) c.make_place.ensures.items in
    let none : no_one ≡ roster_in v t.group = sym (is_absent t.group c.self.inside.index c.self.inside.list.items c.args.self.now c.place.result c.self.invariant c.self.view_is c.place.ensures.at c.in-None.is) in
    (λ j. roster_in (zip (keys j) (items j)) h)
    ∙ (is_pushed t.group c.self.inside.index c.self.inside.list.items c.args.self.now c.place.result c.self.invariant c.self.view_is c.place.ensures.at h new c.in-None.is
    ∙ (ap (λ (r : RosterView). if t.group == h then r else roster_in v h) (c.push-in-None.ensures ∙ ap (with_last t) (c.new-roster.ensures ∙ none)) ∙ at_itself t.group h (with_last t) v))
