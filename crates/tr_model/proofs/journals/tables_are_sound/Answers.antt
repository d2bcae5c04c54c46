use Rattle.tr_model.proofs.Bounds.{entries_are_bounded, some_id_is_free}
use Rattle.tr_model.proofs.Ordered.{waiting_is_sorted}
use Rattle.tr_model.proofs.Standing.{ids_are_distinct, numbers_accepted}
use Rattle.tr_model.proofs.journals.tables_are_sound.Goals as goal

pub returns-clause-ids : goal.returns-clause-ids
returns-clause-ids c = ids_are_distinct

pub returns-clause-free : goal.returns-clause-free
returns-clause-free c = some_id_is_free

pub returns-clause-sorted : goal.returns-clause-sorted
returns-clause-sorted c = waiting_is_sorted

pub returns-clause-numbers : goal.returns-clause-numbers
returns-clause-numbers c = numbers_accepted

pub returns-clause-bounded : goal.returns-clause-bounded
returns-clause-bounded c = entries_are_bounded
