use Rattle.std.proofs.Common.{◌&&◌, ◌∙◌, List, is_some, ap}
use Rattle.std.specs.List.{list_any}
use Rattle.tr_wait.specs.Words.{asks_for}
use Rattle.tr_model.specs.declared.rows.Group.{Group}
use Rattle.tr_model.specs.Tables.{thread_of}
use Rattle.tr_ends.proofs.Firsts.{any_twice}
use Rattle.tr_ends.proofs.starter_waits.has_led.Goals as goal

pub returns : goal.returns
returns c =
    let T = c.args.table.now.table in
    let asks = λ (g : Group). asks_for c.args.which g.tgid in
    let led = λ (g : Group). is_some (thread_of T g.tgid) in
    c.has_led_among.ensures ∙ (ap (λ (gs : List Group). list_any (λ g. asks g && led g) gs) c.asked_groups.ensures ∙ any_twice asks led T.groups)
