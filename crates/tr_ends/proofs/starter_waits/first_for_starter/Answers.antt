use Rattle.std.proofs.Common.{◌&&◌, ◌∙◌, List, flat_map, is_some, ap, sym}
use Rattle.std.proofs.lemmas.Bool.{or_parts}
use Rattle.tr_wait.specs.Words.{asks_for}
use Rattle.tr_model.specs.declared.rows.Group.{Group}
use Rattle.tr_model.specs.StarterWaits.{ready_of_group}
use Rattle.tr_model.specs.Tables.{thread_of}
use Rattle.tr_ends.specs.Private.{first_number, led_among}
use Rattle.tr_ends.proofs.Firsts.{filter_twice}
use Rattle.tr_ends.proofs.Untold.{no_reports}
use Rattle.tr_ends.proofs.starter_waits.first_for_starter.Goals as goal

pub returns-then-not-may_tell : goal.returns-then-not-may_tell
returns-then-not-may_tell c =
    let T = c.args.table.now.table in
    let quiet = or_parts _ _ (sym c.may_tell.ensures ∙ c.if-not-may_tell.true) in
    sym (ap first_number (no_reports T c.args.flags quiet.0 (λ (g : Group). asks_for c.args.which g.tgid && is_some (thread_of T g.tgid)) T.groups (c.may_show_notes.ensures quiet.1)))

pub returns : goal.returns
returns c =
    let T = c.args.table.now.table in
    let asks = λ (g : Group). asks_for c.args.which g.tgid in
    let led = λ (g : Group). is_some (thread_of T g.tgid) in
    c.first_among.ensures ∙ ap (λ (gs : List Group). first_number (flat_map (ready_of_group T c.args.flags) gs)) (ap (led_among T c.args.which) c.asked_groups.ensures ∙ filter_twice asks led T.groups)
