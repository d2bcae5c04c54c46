use Rattle.std.proofs.Common.{◌∙◌, ap}
use Rattle.tr_workers.specs.Follows.{heard}
use Rattle.tr_scenario.specs.RunTexts.{call_of}
use Rattle.tr_figures.specs.Joins.{joined}
use Rattle.tr_picture.specs.Layouts.{aimed_place, lanes_left}
use Rattle.tr_picture.proofs.Rowed.{row_filled}
use Rattle.tr_picture.proofs.rows.push_row_inside.Goals as goal

pub returns : goal.returns
returns c =
    let L = c.args.layout.now in
    let x = heard c.args.answer.now in
    row_filled _ _ _ _ _ _ _ L c.args.line.now c.args.entries c.args.done.now c.args.before.now c.args.table.now.table (call_of c.args.actor c.args.event.now) x _ _ _ _ _ _ _ _
    c.is_entry.ensures c.lanes_left-left.ensures.left c.as_slice.ensures c.taken_by.ensures c.actor_place-actor_lane.ensures.place (c.aimed_place-lane.ensures.place ∙ ap (λ t. aimed_place (lanes_left L) L.lanes t) c.aim_of.ensures)
    (c.aimed_place-other.ensures.place ∙ ap (λ t. aimed_place (lanes_left L) L.lanes t) (c.joined.ensures ∙ ap (joined x) c.renamed-renamed.ensures)) c.renamed-renamed.ensures
    c.in_ok-push_title.ensures c.in_ok-push_cells.ensures c.in_ok-push_withdrawals.ensures c.in_ok-push_row_words.ensures c.in_ok-push_marks.ensures c.in_ok-push_joins.ensures
