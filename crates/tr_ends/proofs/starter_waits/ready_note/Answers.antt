use Rattle.std.proofs.Common.{◌&&◌, ◌∙◌, List, filter, is_some, not, ap, sym}
use Rattle.tr_wait.specs.Words.{asks_for}
use Rattle.tr_model.specs.declared.rows.Group.{Group}
use Rattle.tr_model.specs.StarterWaits.{note_wanted, shows_note, group_with_note}
use Rattle.tr_model.specs.Tables.{has_traced, thread_of}
use Rattle.tr_ends.proofs.Firsts.{filter_twice}
use Rattle.tr_ends.proofs.Untold.{no_noter}
use Rattle.tr_ends.proofs.starter_waits.ready_note.Goals as goal

pub returns-then-not-has_notes : goal.returns-then-not-has_notes
returns-then-not-has_notes c = let T = c.args.table.now.table in sym (no_noter (shows_note T c.args.which c.args.flags) T.groups (sym c.has_notes.ensures ∙ c.if-not-has_notes.true) c.args.number)

pub returns : goal.returns
returns c =
    let T = c.args.table.now.table in
    let asks = λ (g : Group). asks_for c.args.which g.tgid in
    let shown = λ (g : Group). is_some (thread_of T g.tgid) && (not (has_traced T g.tgid) && note_wanted c.args.flags g.note) in
    c.note_among.ensures ∙ ap (λ (gs : List Group). group_with_note gs c.args.number) (ap (λ (gs : List Group). filter (shows_note T c.args.which c.args.flags) gs) c.asked_groups.ensures ∙ filter_twice asks shown T.groups)
