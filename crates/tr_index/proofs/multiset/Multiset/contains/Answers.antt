use Rattle.std.proofs.Common.{◌∙◌, ◌==◌, not, ap}
use Rattle.tr_model.specs.Journals.{occurs}
use Rattle.tr_index.specs.Multisets.{MultisetView}
use Rattle.tr_index.proofs.Multisets.{has_it, result}
use Rattle.tr_index.proofs.multiset.Multiset.contains.Goals as goal

pub returns-else-eq : goal.returns-else-eq
returns-else-eq c =
    let n = c.args.n in
    let xs = c.self.inside.numbers.items in
    c.is_ok.ensures.value ∙ (has_it xs n c.binary_search.result (result xs c.deref-else-eq.result.now n c.binary_search.result c.deref-else-eq.ensures.value c.self.invariant c.binary_search.ensures.position) ∙ ap (λ (t : MultisetView). not (occurs n t.numbers == 0)) c.self.view_is)
