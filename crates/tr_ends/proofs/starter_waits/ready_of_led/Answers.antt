use Rattle.std.proofs.Common.{◌||◌, ◌&&◌, ◌∙◌, Bool, is_some, ap, sym}
use Rattle.std.proofs.lemmas.Bool.{or_parts}
use Rattle.std.specs.List.{list_any}
use Rattle.tr_wait.specs.Words.{asks_for}
use Rattle.tr_model.specs.Tables.{thread_of}
use Rattle.tr_threads.specs.Waits.{is_untraced_death}
use Rattle.tr_ends.proofs.Untold.{no_report_if}
use Rattle.tr_ends.proofs.starter_waits.ready_of_led.Goals as goal

pub returns-then-not-may_tell : goal.returns-then-not-may_tell
returns-then-not-may_tell c =
    let T = c.args.table.now.table in
    let g = c.args.group.now in
    let quiet = or_parts _ _ (ap (λ (b : Bool). list_any is_untraced_death T.threads || b) (sym c.is_note_shown.ensures) ∙ (sym c.may_tell.ensures ∙ c.if-not-may_tell.true)) in
    no_report_if (asks_for c.args.which g.tgid && is_some (thread_of T g.tgid)) T c.args.flags g quiet.0 quiet.1
