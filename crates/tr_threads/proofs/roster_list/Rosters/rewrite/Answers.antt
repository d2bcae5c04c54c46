use Rattle.std.proofs.Common.{◌≡◌, ◌==◌, ◌∙◌, ℕ, List, arith, ap, if◌then◌else◌, length, rules, subst, sym}
use Rattle.tr_threads.specs.Rosters.{HasRow, RosterView, no_one, rewritten, roster_in}
use Rattle.tr_threads.proofs.RosterLists.{at_itself, is_absent, is_found, is_written, unwritten}
use Rattle.tr_threads.proofs.roster_list.Rosters.rewrite.Goals as goal

pub returns-then-counts_alike : goal.returns-then-counts_alike
returns-then-counts_alike c = λ h. unwritten c.args.before.now c.args.after.now (search rules) (search rules) c.args.before.now.group h c.args.self.now c.requires.row

pub returns-in_default : goal.returns-in_default
returns-in_default c =
    let none : roster_in c.args.self.now c.args.before.now.group ≡ no_one = is_absent c.args.before.now.group c.self.inside.index c.self.inside.list.items c.args.self.now c.place.result c.self.invariant c.self.view_is c.place.ensures.at c.in_default.is in
    absurd (omega (arith, c.requires.there, ap (λ (r : RosterView). length r.ids) none))

pub rewrite-requires-clause-once : goal.rewrite-requires-clause-once
rewrite-requires-clause-once c =
    let its : c.index_mut.result.now ≡ roster_in c.args.self.now c.args.before.now.group = c.index_mut.ensures.value ∙ is_found c.args.before.now.group c.self.inside.index c.self.inside.list.items c.args.self.now c.place.result c.self.invariant c.self.view_is c.place.ensures.at c.in-Some.place c.index_mut.result.now c.in-Some.is in
    rw its c.requires.once

pub rewrite-requires-clause-small : goal.rewrite-requires-clause-small
rewrite-requires-clause-small c =
    let its : c.index_mut.result.now ≡ roster_in c.args.self.now c.args.before.now.group = c.index_mut.ensures.value ∙ is_found c.args.before.now.group c.self.inside.index c.self.inside.list.items c.args.self.now c.place.result c.self.invariant c.self.view_is c.place.ensures.at c.in-Some.place c.index_mut.result.now c.in-Some.is in
    rw its c.requires.small

pub rewrite-requires-clause-counts : goal.rewrite-requires-clause-counts
rewrite-requires-clause-counts c =
    let its : c.index_mut.result.now ≡ roster_in c.args.self.now c.args.before.now.group = c.index_mut.ensures.value ∙ is_found c.args.before.now.group c.self.inside.index c.self.inside.list.items c.args.self.now c.place.result c.self.invariant c.self.view_is c.place.ensures.at c.in-Some.place c.index_mut.result.now c.in-Some.is in
    rw its c.requires.counts

pub rewrite-requires-clause-row : goal.rewrite-requires-clause-row
rewrite-requires-clause-row c =
    let its : c.index_mut.result.now ≡ roster_in c.args.self.now c.args.before.now.group = c.index_mut.ensures.value ∙ is_found c.args.before.now.group c.self.inside.index c.self.inside.list.items c.args.self.now c.place.result c.self.invariant c.self.view_is c.place.ensures.at c.in-Some.place c.index_mut.result.now c.in-Some.is in
    subst (HasRow c.args.before.now) (sym its) c.requires.row

pub returns : goal.returns
returns c = λ h.
    let t = c.args.before.now in
    let u = c.args.after.now in
    let v : List (ℕ × RosterView) = c.args.self.now in
    let its : c.index_mut.result.now ≡ roster_in v t.group = c.index_mut.ensures.value ∙ is_found t.group c.self.inside.index c.self.inside.list.items c.args.self.now c.place.result c.self.invariant c.self.view_is c.place.ensures.at c.in-Some.place c.index_mut.result.now c.in-Some.is in
    is_written t.group c.self.inside.index c.self.inside.list.items c.args.self.now c.place.result c.self.invariant c.self.view_is c.place.ensures.at c.in-Some.place h c.rewrite.new.self c.in-Some.is
    ∙ (ap (λ (r : RosterView). if t.group == h then r else roster_in v h) (c.rewrite.ensures ∙ ap (rewritten t u) its) ∙ at_itself t.group h (rewritten t u) v)
