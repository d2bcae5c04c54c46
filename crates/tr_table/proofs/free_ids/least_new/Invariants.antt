use Rattle.std.proofs.Common.{◌≡◌, ◌-◌}
use Rattle.tr_model.specs.Preferred.{least_new}
use Rattle.tr_table.specs.Changes.{ids_table}
use Rattle.tr_table.proofs.free_ids.least_new.Given as goal

abbrev pub invariant-loop-id : goal.invariant-loop-id
invariant-loop-id l = least_new (ids_table l.threads l.groups) (4194304 - l.fn.from) l.fn.from ≡ least_new (ids_table l.threads l.groups) (4194304 - l.id) l.id
