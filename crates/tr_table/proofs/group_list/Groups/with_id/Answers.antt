use Rattle.std.proofs.Common.{◌≡◌, ◌∙◌, ◌∷◌, [], List, get_or, ap}
use Rattle.tr_model.specs.declared.rows.Group.{Group}
use Rattle.tr_table.proofs.GroupLists.{with_id_nowhere, with_id_there}
use Rattle.tr_table.proofs.group_list.Groups.with_id.Goals as goal

pub returns-in-Some : goal.returns-in-Some
returns-in-Some c =
    let xs = c.args.self.now in
    let x = c.index.result.now in
    let i = c.in-Some.place in
    let here = c.in-Some.ensures.place in
    let e : x ≡ get_or xs i x = c.index.ensures ∙ ap (λ (ys : List Group). get_or ys i x) c.self.view_is in
    c.from_ref.ensures.value ∙ (ap (λ (y : Group). y ∷ []) e ∙ with_id_there c.args.tgid xs i x here.0 (here.3 x) (c.place.ensures.once c.args.tgid))

pub returns-in-None : goal.returns-in-None
returns-in-None c = with_id_nowhere c.args.tgid c.args.self.now c.in-None.ensures.place.1
