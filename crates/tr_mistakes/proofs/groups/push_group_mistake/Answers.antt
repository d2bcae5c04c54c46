use Rattle.std.proofs.Common.{◌≡◌, ◌∙◌, true, false, codes}
use Rattle.std.specs.Prelude.{is_err}
use Rattle.serde_json.specs.View.{view}
use Rattle.tr_reading.specs.Fields.{id_at, text_at}
use Rattle.tr_mistakes.proofs.Spoken.{decided, further, on_ok, second}
use Rattle.tr_mistakes.proofs.groups.push_group_mistake.Goals as goal

pub returns-then-branch-2 : goal.returns-then-branch-2
returns-then-branch-2 c =
    let d = view c.args.object.now in
    let e1 : is_err (id_at (codes "tgid") d) ≡ false = decided _ _ _ _ _ c.id.ensures c.refused.ensures c.in_ok-refused.was ∙ c.if-branch.false in
    let e2 : is_err (text_at (codes "name") d) ≡ true = decided _ _ _ _ _ c.text.ensures c.refused-2.ensures c.in_ok-refused-2.was ∙ c.if-branch-2.true in
    on_ok c.push_wanted_at.result (second _ _ _ _ _ _ _ e1 e2) c.push_wanted_at.ensures

pub returns : goal.returns
returns c =
    let d = view c.args.object.now in
    let e1 : is_err (id_at (codes "tgid") d) ≡ false = decided _ _ _ _ _ c.id.ensures c.refused.ensures c.in_ok-refused.was ∙ c.if-branch.false in
    let e2 : is_err (text_at (codes "name") d) ≡ false = decided _ _ _ _ _ c.text.ensures c.refused-2.ensures c.in_ok-refused-2.was ∙ c.if-branch-2.false in
    on_ok c.push_group_lists_mistake.result (further _ _ _ _ _ _ _ e1 e2) c.push_group_lists_mistake.ensures
