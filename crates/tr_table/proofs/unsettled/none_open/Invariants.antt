use Rattle.std.proofs.Common.{◌≡◌, ◌<◌, ◌==◌, ℕ, false, get_or, not}
use Rattle.tr_model.specs.declared.rows.Group.{Group}
use Rattle.tr_model.specs.Journals.{occurs}
use Rattle.tr_table.specs.Settled.{is_open_row}
use Rattle.tr_table.proofs.unsettled.none_open.Given as goal

abbrev pub invariant-loop-place : goal.invariant-loop-place
invariant-loop-place l = (k : ℕ) (d : Group) → k < l.place → is_open_row l.threads (not (occurs k l.places.numbers == 0)) (get_or l.groups k d) ≡ false
