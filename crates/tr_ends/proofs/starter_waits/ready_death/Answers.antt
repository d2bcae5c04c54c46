use Rattle.std.proofs.Common.{◌∙◌, List, is_some, ap, sym}
use Rattle.tr_wait.specs.Words.{asks_for}
use Rattle.tr_model.specs.declared.rows.Group.{Group}
use Rattle.tr_model.specs.StarterWaits.{led_groups, with_death}
use Rattle.tr_model.specs.Tables.{thread_of}
use Rattle.tr_ends.specs.Private.{led_among}
use Rattle.tr_ends.proofs.Firsts.{filter_twice}
use Rattle.tr_ends.proofs.Untold.{no_leader}
use Rattle.tr_ends.proofs.starter_waits.ready_death.Goals as goal

pub returns-then-not-has_untraced_deaths : goal.returns-then-not-has_untraced_deaths
returns-then-not-has_untraced_deaths c = let T = c.args.table.now.table in sym (no_leader T (sym c.has_untraced_deaths.ensures ∙ c.if-not-has_untraced_deaths.true) (led_groups T c.args.which) c.args.number)

pub returns : goal.returns
returns c =
    let T = c.args.table.now.table in
    let asks = λ (g : Group). asks_for c.args.which g.tgid in
    let led = λ (g : Group). is_some (thread_of T g.tgid) in
    c.death_among.ensures ∙ ap (λ (gs : List Group). with_death T gs c.args.number) (ap (led_among T c.args.which) c.asked_groups.ensures ∙ filter_twice asks led T.groups)
