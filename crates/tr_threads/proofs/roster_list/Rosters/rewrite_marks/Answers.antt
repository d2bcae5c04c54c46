use Rattle.std.proofs.Common.{◌≡◌, ◌==◌, ◌∙◌, ℕ, List, arith, ap, if◌then◌else◌, length}
use Rattle.tr_threads.specs.Rosters.{RosterView, no_one, roster_in, with_marks}
use Rattle.tr_threads.proofs.RosterLists.{at_itself, is_absent, is_found, is_written}
use Rattle.tr_threads.proofs.roster_list.Rosters.rewrite_marks.Goals as goal

pub returns-in_default : goal.returns-in_default
returns-in_default c =
    let none : roster_in c.args.self.now c.args.after.now.group ≡ no_one = is_absent c.args.after.now.group c.self.inside.index c.self.inside.list.items c.args.self.now c.place_near.result c.self.invariant c.self.view_is c.place_near.ensures.at c.in_default.is in
    absurd (omega (arith, c.requires.there, ap (λ (r : RosterView). length r.ids) none))

pub rewrite_marks-requires-clause-once : goal.rewrite_marks-requires-clause-once
rewrite_marks-requires-clause-once c =
    let its : c.index_mut.result.now ≡ roster_in c.args.self.now c.args.after.now.group = c.index_mut.ensures.value ∙ is_found c.args.after.now.group c.self.inside.index c.self.inside.list.items c.args.self.now c.place_near.result c.self.invariant c.self.view_is c.place_near.ensures.at c.in-Some.place c.index_mut.result.now c.in-Some.is in
    rw its c.requires.once

pub rewrite_marks-requires-clause-few : goal.rewrite_marks-requires-clause-few
rewrite_marks-requires-clause-few c =
    let its : c.index_mut.result.now ≡ roster_in c.args.self.now c.args.after.now.group = c.index_mut.ensures.value ∙ is_found c.args.after.now.group c.self.inside.index c.self.inside.list.items c.args.self.now c.place_near.result c.self.invariant c.self.view_is c.place_near.ensures.at c.in-Some.place c.index_mut.result.now c.in-Some.is in
    rw its c.requires.few

pub rewrite_marks-requires-clause-counted : goal.rewrite_marks-requires-clause-counted
rewrite_marks-requires-clause-counted c =
    let its : c.index_mut.result.now ≡ roster_in c.args.self.now c.args.after.now.group = c.index_mut.ensures.value ∙ is_found c.args.after.now.group c.self.inside.index c.self.inside.list.items c.args.self.now c.place_near.result c.self.invariant c.self.view_is c.place_near.ensures.at c.in-Some.place c.index_mut.result.now c.in-Some.is in
    rw its c.requires.counted

pub returns : goal.returns
returns c = λ h.
    let u = c.args.after.now in
    let v : List (ℕ × RosterView) = c.args.self.now in
    let its : c.index_mut.result.now ≡ roster_in c.args.self.now c.args.after.now.group = c.index_mut.ensures.value ∙ is_found c.args.after.now.group c.self.inside.index c.self.inside.list.items c.args.self.now c.place_near.result c.self.invariant c.self.view_is c.place_near.ensures.at c.in-Some.place c.index_mut.result.now c.in-Some.is in
    is_written c.args.after.now.group c.self.inside.index c.self.inside.list.items c.args.self.now c.place_near.result c.self.invariant c.self.view_is c.place_near.ensures.at c.in-Some.place h c.rewrite_marks.new.self c.in-Some.is
    ∙ (ap (λ (r : RosterView). if u.group == h then r else roster_in v h) (c.rewrite_marks.ensures ∙ ap (with_marks c.args.had_mark u) its) ∙ at_itself u.group h (with_marks c.args.had_mark u) v)
