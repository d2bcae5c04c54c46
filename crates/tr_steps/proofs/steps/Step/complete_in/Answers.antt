use Rattle.std.proofs.Common.{◌≡◌, ◌∙◌, ◌&&◌, Bool, ap, not, subst, sym, true}
use Rattle.tr_group.specs.GroupStops.{is_stopping}
use Rattle.tr_model.specs.GroupStops.{complete_group_stop, complete_group_stops, complete_stop}
use Rattle.tr_model.specs.Moves.{Work, when}
use Rattle.tr_model.specs.Tables.{group_of, has_stop_mark, stop_of}
use Rattle.tr_table.specs.Settled.{NoStopBut}
use Rattle.tr_table.specs.declared.unsettled.Unsettled.{Unsettled}
use Rattle.tr_table.proofs.Settling.{one_complete}
use Rattle.tr_steps.proofs.steps.Step.complete_in.Goals as goal

pub returns-in-In-clause-work : goal.returns-in-In-clause-work
returns-in-In-clause-work c =
    let n = c.in-In.tgid in
    let w : Work = c.args.self.now.work in
    let one : complete_group_stops w ≡ complete_group_stop n w = one_complete n w (subst (λ (u : Unsettled). NoStopBut u w.table.threads w.table.groups) c.in-In.is c.requires.stops) in
    let can : (is_stopping (stop_of (group_of w.table n)) && not (has_stop_mark w.table n)) ≡ true = sym c.can_complete.ensures ∙ c.if-can_complete.true in
    c.complete_stop.ensures.work ∙ sym (one ∙ ap (λ (b : Bool). when b (complete_stop n) w) can)
