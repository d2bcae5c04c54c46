use Rattle.std.proofs.Common.{◌∙◌, ap, length}
use Rattle.std.proofs.lemmas.List.{take-replicate}
use Rattle.tr_table.specs.Rows.{RowsView}
use Rattle.tr_table.proofs.rows.SharedRows.own.Goals as goal

pub returns : goal.returns
returns c = take-replicate (length c.self.inside.blocked.now) 64 0 c.self.invariant ∙ ap (λ (v : RowsView). v.own) c.self.view_is
