use Rattle.std.proofs.Common.{◌≡◌, ◌∙◌, true, false, codes}
use Rattle.std.specs.Prelude.{is_err}
use Rattle.serde_json.specs.View.{view}
use Rattle.tr_reading.specs.Fields.{id_at}
use Rattle.tr_mistakes.proofs.Spoken.{decided, further, on_ok, second}
use Rattle.tr_mistakes.proofs.groups.push_start_mistake.Goals as goal

pub returns-then-branch-2 : goal.returns-then-branch-2
returns-then-branch-2 c =
    let d = view c.args.object.now in
    let e1 : is_err (id_at (codes "limit") d) ≡ false = decided _ _ _ _ _ c.id.ensures c.refused.ensures c.in_ok-refused.was ∙ c.if-branch.false in
    let e2 : is_err (id_at (codes "entries") d) ≡ true = decided _ _ _ _ _ c.id-2.ensures c.refused-2.ensures c.in_ok-refused-2.was ∙ c.if-branch-2.true in
    on_ok c.push_mistake-then-branch-2.result (second _ _ _ _ _ _ _ e1 e2) c.push_mistake-then-branch-2.ensures

pub returns : goal.returns
returns c =
    let d = view c.args.object.now in
    let e1 : is_err (id_at (codes "limit") d) ≡ false = decided _ _ _ _ _ c.id.ensures c.refused.ensures c.in_ok-refused.was ∙ c.if-branch.false in
    let e2 : is_err (id_at (codes "entries") d) ≡ false = decided _ _ _ _ _ c.id-2.ensures c.refused-2.ensures c.in_ok-refused-2.was ∙ c.if-branch-2.false in
    on_ok c.push_list_mistake.result (further _ _ _ _ _ _ _ e1 e2) c.push_list_mistake.ensures
