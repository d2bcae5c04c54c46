use Rattle.std.proofs.Common.{◌∙◌, filter, ap}
use Rattle.tr_wait.specs.Words.{asks_for}
use Rattle.tr_table.specs.View.{View}
use Rattle.tr_table.proofs.GroupLists.{all_asked}
use Rattle.tr_table.proofs.table.Table.asked_groups.Goals as goal

pub returns-in-None : goal.returns-in-None
returns-in-None c =
    let asks = asks_for c.args.which in
    c.as_slice.ensures ∙ (all_asked asks c.self.inside.groups c.in-None.ensures ∙ ap (λ (v : View). filter (λ x. asks x.tgid) v.table.groups) c.self.view_is)
