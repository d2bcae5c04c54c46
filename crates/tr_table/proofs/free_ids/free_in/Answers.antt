use Rattle.std.proofs.Common.{◌∙◌, sym}
use Rattle.tr_table.specs.Changes.{ids_table}
use Rattle.tr_table.proofs.FreeIds.{found_above, none_above}
use Rattle.tr_table.proofs.free_ids.free_in.Goals as goal

pub returns-in-Some : goal.returns-in-Some
returns-in-Some c = found_above (ids_table c.args.threads.now c.args.groups.now) c.args.above c.in-Some.id (sym c.in-Some.is ∙ c.least_above.ensures)

pub returns-in-None : goal.returns-in-None
returns-in-None c = c.free_from_2.ensures ∙ none_above (ids_table c.args.threads.now c.args.groups.now) c.args.above (sym c.in-None.is ∙ c.least_above.ensures)
