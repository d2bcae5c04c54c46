use Rattle.std.proofs.Common.{rules, ◌≡◌, ◌+◌, ◌-◌, ◌%◌, ◌<◌, ◌≤◌, ◌∙◌, ℕ, List, get_or, length, ap, subst, sym}
use Rattle.tr_model.specs.Journals.{occurs}
use Rattle.tr_index.specs.Places.{place_in}
use Rattle.tr_threads.specs.Rosters.{RosterView}
use Rattle.tr_index.proofs.Positions.{place_at}
use Rattle.tr_threads.proofs.roster_list.Roster.place.Goals as goal

pub returns-then-deref-likely-clause-place : goal.returns-then-deref-likely-clause-place
returns-then-deref-likely-clause-place c =
    let id : ℕ = c.args.id in
    let ids : List ℕ = c.self.inside.ids.items in
    let likely : ℕ = (c.args.at + (18446744073709551616 - c.self.inside.base)) % 18446744073709551616 in
    let same : ids ≡ c.args.self.now.ids = ap (λ (r : RosterView). r.ids) c.self.view_is in
    let within : likely < length ids = subst (λ (n : ℕ). likely < n) c.len.ensures.value c.if-likely-len.true in
    let here : get_or ids likely 0 ≡ id = search rules in
    sym (ap (place_in id) (sym same) ∙ place_at id likely 0 ids within here (subst (λ (ns : List ℕ). occurs id ns ≤ 1) (sym same) c.requires))
