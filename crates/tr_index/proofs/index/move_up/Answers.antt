use Rattle.std.proofs.Common.{◌≡◌, ◌==◌, ◌+◌, ◌∙◌, ℕ, suc, List, ap, arith, get_or, if◌then◌else◌, sym}
use Rattle.tr_index.specs.Pages.{number_at}
use Rattle.tr_index.proofs.Numbered.{at_place, has_place, lowered, moved_is, number, shift_self, shifted}
use Rattle.tr_index.proofs.index.move_up.Goals as goal

pub set-requires : goal.set-requires
set-requires c =
    let ids : List ℕ = c.args.ids.now in
    let i : ℕ = c.loop-at.at in
    let x : ℕ = get_or ids i 0 in
    has_place c.loop-at.pages x (suc i) (c.loop-at.invariant x ∙ (moved_is i x ids ∙ (ap (shifted i) (at_place i 0 ids c.requires.once (omega (arith, c.loop-at-test.true))) ∙ shift_self i)))

pub loop-at-preserved : goal.loop-at-preserved
loop-at-preserved c = λ n.
    let ids : List ℕ = c.args.ids.now in
    let i : ℕ = c.loop-at.at in
    let next : i + 1 ≡ suc i = omega arith in
    let kept : number_at c.loop-at.pages n ≡ shifted i (number n ids) = c.loop-at.invariant n ∙ moved_is i n ids in
    c.set.ensures.numbers n
    ∙ ((λ j. if n == get_or ids i 0 then next j else kept j)
    ∙ (lowered n i 0 ids c.requires.once (omega (arith, c.loop-at-test.true))
    ∙ (ap (λ k. shifted k (number n ids)) (sym next)
    ∙ sym (moved_is (i + 1) n ids))))
