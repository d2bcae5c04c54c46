use Rattle.std.proofs.Common.{◌≡◌, ◌==◌, ◌++◌, ◌∷◌, ◌∙◌, [], ℕ, suc, List, false, ap, arith, if◌then◌else◌, length, length-append, position, sym}
use Rattle.std.specs.List.{list_any}
use Rattle.tr_index.specs.Pages.{counted_from_one, number_at}
use Rattle.tr_index.proofs.Indexing.{once_pushed}
use Rattle.tr_index.proofs.Numbered.{number, number_is, number_pushed}
use Rattle.tr_index.proofs.index.Index.push.Goals as goal

pub invariant_of-self-2 : goal.invariant_of-self-2
invariant_of-self-2 c =
    let ids : List ℕ = c.self.inside.ids.items in
    let id : ℕ = c.args.id in
    let new : list_any (λ m. m == id) ids ≡ false = ap (λ (ns : List ℕ). list_any (λ m. m == id) ns) c.self.view_is ∙ c.requires in
    let items : c.push_reserved.new.self.items ≡ ids ++ id ∷ [] = c.push_reserved.ensures.items ∙ ap (λ (ns : List ℕ). ns ++ id ∷ []) c.in_ok-reserve.ensures.items in
    let size : c.len.result ≡ suc (length ids) = omega (arith, c.len.ensures, c.push_reserved.new.self.ok.0, ap (λ (ns : List ℕ). length ns) items, length-append ids (id ∷ [])) in
    let kept : (n : ℕ) → number_at c.open.new.self n ≡ number n ids = λ n. c.in_ok-open.ensures.same n ∙ (c.self.invariant.told n ∙ number_is n ids) in
    record {
      once = rw items (once_pushed id ids new c.self.invariant.once);
      told = λ n.
          c.set.ensures.numbers n
          ∙ ((λ j. if n == id then size j else kept n j)
          ∙ (sym (number_pushed n id ids new)
          ∙ (sym (number_is n (ids ++ id ∷ []))
          ∙ ap (λ (ns : List ℕ). counted_from_one (position (λ m. m == n) ns)) (sym items))));
    }
