use Rattle.std.proofs.Common.{◌∙◌, ◌==◌, ℕ, List, is_some, not, ap, sym}
use Rattle.std.specs.List.{list_any}
use Rattle.tr_model.specs.declared.rows.Group.{Group}
use Rattle.tr_threads.proofs.Counting.{any_counted}
use Rattle.tr_table.proofs.group_list.Groups.has_notes.Goals as goal

pub returns : goal.returns
returns c =
    let has_note = λ (x : Group). is_some x.note in
    ap (λ (n : ℕ). not (n == 0)) c.self.invariant.noted ∙ (sym (any_counted has_note c.self.inside.list.items) ∙ ap (λ (xs : List Group). list_any has_note xs) c.self.view_is)
