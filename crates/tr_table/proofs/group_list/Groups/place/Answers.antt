use Rattle.std.proofs.Common.{List, subst}
use Rattle.tr_model.specs.declared.rows.Group.{Group}
use Rattle.tr_table.specs.Private.{IsGroupPlace}
use Rattle.tr_table.proofs.Places.{is_group_place}
use Rattle.tr_table.proofs.group_list.Groups.place.Goals as goal

pub returns-clause-place : goal.returns-clause-place
returns-clause-place c = subst (λ (xs : List Group). IsGroupPlace c.args.tgid xs c.place.result) c.self.view_is (is_group_place c.args.tgid c.self.inside.list.items c.self.inside.index c.place.result c.self.invariant.indexed c.place.ensures.at)
