use Rattle.std.proofs.Common.{◌≡◌, ◌==◌, ◌<◌, ◌∙◌, ℕ, List, ap, arith, get_or, if◌then◌else◌, length, position, remove, sym}
use Rattle.tr_index.specs.Pages.{number_at, number_moved}
use Rattle.tr_index.proofs.Indexing.{once_removed}
use Rattle.tr_index.proofs.Numbered.{at_place, has_place, moved_is, number, number_is, removed}
use Rattle.tr_index.proofs.index.Index.remove.Goals as goal

pub set-requires : goal.set-requires
set-requires c =
    let ids : List ℕ = c.self.inside.ids.items in
    let x : ℕ = c.remove-id.result in
    let within : c.args.place < length ids = omega (arith, c.requires, ap (λ (ns : List ℕ). length ns) c.self.view_is) in
    let its : number x ids ≡ number (get_or ids c.args.place x) ids = ap (λ m. number m ids) c.remove-id.ensures.value in
    has_place c.self.inside.pages x c.args.place (c.self.invariant.told x ∙ (number_is x ids ∙ (its ∙ at_place c.args.place x ids c.self.invariant.once within)))

pub move_up-requires-clause-once : goal.move_up-requires-clause-once
move_up-requires-clause-once c =
    let left : c.deref.result.now ≡ remove c.self.inside.ids.items c.args.place = c.deref.ensures.value ∙ c.remove-id.ensures.items in
    rw left (once_removed c.self.inside.ids.items c.args.place c.self.invariant.once)

pub move_up-requires-clause-moved : goal.move_up-requires-clause-moved
move_up-requires-clause-moved c = λ n.
    let ids : List ℕ = c.self.inside.ids.items in
    let x : ℕ = c.remove-id.result in
    let place : ℕ = c.args.place in
    let within : place < length ids = omega (arith, c.requires, ap (λ (ns : List ℕ). length ns) c.self.view_is) in
    let left : c.deref.result.now ≡ remove ids place = c.deref.ensures.value ∙ c.remove-id.ensures.items in
    let kept : number_at c.self.inside.pages n ≡ number n ids = c.self.invariant.told n ∙ number_is n ids in
    c.set.ensures.numbers n
    ∙ ((λ j. if n == c.remove-id.ensures.value j then 0 else kept j)
    ∙ (removed n place x ids c.self.invariant.once within
    ∙ (sym (moved_is place n (remove ids place))
    ∙ ap (λ (ns : List ℕ). number_moved place (position (λ m. m == n) ns)) (sym left))))
