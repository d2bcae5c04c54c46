use Rattle.std.proofs.Common.{◌∙◌, length, subst, sym}
use Rattle.tr_model.specs.Tables.{Table}
use Rattle.tr_queues.specs.Slots.{standing}
use Rattle.tr_table.specs.Private.{IsNextPlace}
use Rattle.tr_table.specs.Settled.{NoneBut, is_listed}
use Rattle.tr_table.specs.Telling.{IsNextTelling}
use Rattle.tr_table.specs.View.{View}
use Rattle.tr_table.specs.declared.unsettled.Unsettled.{Unsettled}
use Rattle.tr_table.proofs.Telling.{next_told, none_tells}
use Rattle.tr_table.proofs.table.Table.telling_from.Goals as goal

pub returns-then-not-has_stray_deaths : goal.returns-then-not-has_stray_deaths
returns-then-not-has_stray_deaths c =
    let o = c.self.inside in
    let places = o.telling.numbers in
    let T : Table = record { threads = o.threads; groups = o.groups; waiting = standing o.pending.slots.items; accepted = o.accepted; raised = o.raised; limit = o.limit; entries = o.entries } in
    let settled = subst (λ (u : Unsettled). NoneBut u o.threads o.groups (is_listed o.groups places)) (c.is_nowhere.ensures c.if-is_nowhere.true) c.self.invariant.settled in
    let next : IsNextPlace c.args.place (length o.groups) places c.next_place.result = subst (λ n. IsNextPlace c.args.place n places c.next_place.result) c.len-end.ensures.len c.next_place.ensures in
    let stray = sym c.has_stray_deaths.ensures ∙ c.if-not-has_stray_deaths.true in
    subst (λ (v : View). IsNextTelling v.table v.table.groups c.args.place c.next_place.result) c.self.view_is (next_told T places c.args.place c.next_place.result next (none_tells T places c.len-end.ensures.once settled stray))
