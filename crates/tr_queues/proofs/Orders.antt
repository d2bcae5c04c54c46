-- One more comes last, above all that wait.
use Rattle.std.proofs.Common.{List, [], ◌∷◌, ◌++◌}
use Rattle.tr_model.specs.declared.rows.Waiting.{Waiting}
use Rattle.tr_model.specs.Journals.{IsSorted}
use Rattle.tr_model.proofs.Sorted.{above_more}
use Rattle.tr_queues.specs.Queues.{AllBelow}

-- one more, above all that wait

pub sorted_last : (qs : List Waiting) (q : Waiting) → IsSorted qs → AllBelow q.instance.n qs → IsSorted (qs ++ q ∷ [])
sorted_last [] q h k = (tt, tt)
sorted_last (x ∷ qs) q h k = (above_more x.instance.n qs q h.0 k.0, sorted_last qs q h.1 k.1)
