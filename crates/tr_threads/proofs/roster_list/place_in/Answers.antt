use Rattle.std.proofs.Common.{rules, ◌≡◌, ◌==◌, ℕ, arith, get_or, sym}
use Rattle.std.proofs.lemmas.Bool.{eq-eqb}
use Rattle.std.proofs.lemmas.List.Sums.{position_or_len_is}
use Rattle.tr_threads.proofs.roster_list.place_in.Goals as goal

pub returns-else-ids-place : goal.returns-else-ids-place
returns-else-ids-place c =
    let id = c.args.id in
    let ids = c.args.ids.now in
    let place = c.loop-place.place in
    let here : get_or ids place 0 ≡ id = search rules in
    sym (position_or_len_is (λ (m : ℕ). m == id) ids place 0 c.loop-place.invariant.within c.loop-place.invariant.others (λ h. eq-eqb (get_or ids place 0) id here))

pub returns-after-loop-place : goal.returns-after-loop-place
returns-after-loop-place c =
    sym (position_or_len_is (λ (m : ℕ). m == c.args.id) c.args.ids.now c.loop-place.place 0 c.loop-place.invariant.within c.loop-place.invariant.others (λ h. absurd (omega (arith, h, c.loop-place-test.false))))
