use Rattle.std.proofs.Common.{rules, ◌≡◌, ◌<◌, ◌==◌, ℕ, List, Some, get_or, length, subst, sym}
use Rattle.std.specs.List.{position}
use Rattle.tr_index.proofs.Positions.{position_at}
use Rattle.tr_index.proofs.index.Index.place_near.Goals as goal

pub returns-then-index-id-clause-at : goal.returns-then-index-id-clause-at
returns-then-index-id-clause-at c =
    let id : ℕ = c.args.id in
    let ids : List ℕ = c.self.inside.ids.items in
    let likely : ℕ = c.args.likely in
    let within : likely < length ids = search rules in
    let here : get_or ids likely c.index.result.now ≡ id = search rules in
    subst (λ (ns : List ℕ). Some likely ≡ position (λ n. n == id) ns) c.self.view_is (sym (position_at id likely c.index.result.now ids within here (c.self.invariant.once id)))
