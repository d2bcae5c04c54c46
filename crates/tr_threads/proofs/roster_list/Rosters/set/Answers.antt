use Rattle.std.proofs.Common.{◌≡◌, ◌==◌, false, true, ◌∙◌, ℕ, List, arith, ap, if◌then◌else◌, length, sym}
use Rattle.std.specs.List.{zip}
use Rattle.tr_threads.specs.Rosters.{RosterView, no_one, roster_in}
use Rattle.tr_threads.proofs.RosterLists.{is_absent, is_gone, is_written, none_left, some_left}
use Rattle.tr_threads.proofs.roster_list.Rosters.set.Goals as goal

pub returns-in_default : goal.returns-in_default
returns-in_default c =
    let none : roster_in c.args.self.now c.args.tgid ≡ no_one = is_absent c.args.tgid c.self.inside.index c.self.inside.list.items c.args.self.now c.place.result c.self.invariant c.self.view_is c.place.ensures.at c.in_default.is in
    absurd (omega (arith, c.requires, ap (λ (r : RosterView). length r.ids) none))

pub returns-then-is_empty : goal.returns-then-is_empty
returns-then-is_empty c = λ h.
    let v : List (ℕ × RosterView) = c.args.self.now in
    let size : (length c.roster.inside.ids.items == 0) ≡ (length c.args.roster.ids == 0) = ap (λ (r : RosterView). length r.ids == 0) c.roster.view_is in
    let empty : (length c.args.roster.ids == 0) ≡ true = sym size ∙ (sym c.is_empty.ensures ∙ c.if-is_empty.true) in
    (λ j. roster_in (zip (c.remove.ensures j) (c.remove-empty.ensures.items j)) h)
    ∙ (is_gone c.args.tgid c.self.inside.index c.self.inside.list.items c.args.self.now c.place.result c.self.invariant c.self.view_is c.place.ensures.at c.in-Some.place h c.place.ensures.once c.in-Some.is
    ∙ ap (λ (r : RosterView). if c.args.tgid == h then r else roster_in v h) (none_left c.args.roster empty))

pub returns-else-is_empty : goal.returns-else-is_empty
returns-else-is_empty c = λ h.
    let v : List (ℕ × RosterView) = c.args.self.now in
    let size : (length c.roster.inside.ids.items == 0) ≡ (length c.args.roster.ids == 0) = ap (λ (r : RosterView). length r.ids == 0) c.roster.view_is in
    let some : (length c.args.roster.ids == 0) ≡ false = sym size ∙ (sym c.is_empty.ensures ∙ c.if-is_empty.false) in
    is_written c.args.tgid c.self.inside.index c.self.inside.list.items c.args.self.now c.place.result c.self.invariant c.self.view_is c.place.ensures.at c.in-Some.place h c.args.roster c.in-Some.is
    ∙ ap (λ (r : RosterView). if c.args.tgid == h then r else roster_in v h) (some_left c.args.roster some)
