use Rattle.std.proofs.Common.{◌∙◌, List, subst, sym}
use Rattle.tr_wait.specs.Words.{asks_for}
use Rattle.tr_model.specs.declared.rows.Group.{Group}
use Rattle.tr_table.specs.Telling.{IsNextTelling}
use Rattle.tr_table.proofs.GroupLists.{all_asked}
use Rattle.tr_ends.proofs.starter_waits.next_telling.Goals as goal

pub returns-then-is_for_any : goal.returns-then-is_for_any
returns-then-is_for_any c =
    let T = c.args.table.now.table in
    subst (λ (gs : List Group). IsNextTelling T gs c.args.place c.telling_from.result) (all_asked (asks_for c.args.which) T.groups (c.is_for_any.ensures c.if-is_for_any.true) ∙ sym c.requires) c.telling_from.ensures
