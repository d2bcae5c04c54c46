use Rattle.std.proofs.Common.{◌∙◌}
use Rattle.tr_table.specs.Changes.{ids_table}
use Rattle.tr_table.proofs.FreeIds.{from_2}
use Rattle.tr_table.proofs.free_ids.free_from_2.Goals as goal

pub returns : goal.returns
returns c = c.unwrap_or.ensures ∙ from_2 (ids_table c.args.threads.now c.args.groups.now) c.least_new.result c.least_new.ensures
