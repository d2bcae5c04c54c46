use Rattle.std.proofs.Common.{◌≡◌, ◌∙◌, ◌&&◌, Bool, eqb-true, false, is_some, length, not, refl, subst, sym, true}
use Rattle.std.specs.List.{list_any}
use Rattle.tr_model.specs.declared.rows.Group.{Group}
use Rattle.tr_model.specs.Tables.{has_traced}
use Rattle.tr_table.specs.Settled.{NoneBut, is_listed}
use Rattle.tr_table.specs.View.{View}
use Rattle.tr_table.specs.declared.unsettled.Unsettled.{Unsettled}
use Rattle.tr_table.proofs.Telling.{noteless, unlisted, unshown}
use Rattle.tr_table.proofs.table.Table.may_show_notes.Goals as goal

pub returns-in-Nowhere : goal.returns-in-Nowhere
returns-in-Nowhere c = λ e.
    let ts = c.self.inside.threads in
    let xs = c.self.inside.groups in
    let places = c.self.inside.telling.numbers in
    let none : length places ≡ 0 = eqb-true (length places) 0 (sym c.is_empty.ensures ∙ not_false c.is_empty.result e) in
    let all = unlisted ts xs places none (subst (λ (u : Unsettled). NoneBut u ts xs (is_listed xs places)) c.in-Nowhere.is c.self.invariant.settled) in
    subst (λ (v : View). list_any (λ (x : Group). is_some x.note && not (has_traced v.table x.tgid)) v.table.groups ≡ false) c.self.view_is (unshown ts xs all)
  where
    not_false : (b : Bool) → not b ≡ false → b ≡ true
    not_false true k = refl
    not_false false k = sym k

pub returns-in_default : goal.returns-in_default
returns-in_default c = λ e.
    subst (λ (v : View). list_any (λ (x : Group). is_some x.note && not (has_traced v.table x.tgid)) v.table.groups ≡ false) c.self.view_is (noteless c.self.inside.threads c.self.inside.groups (sym c.has_notes.ensures ∙ e))
