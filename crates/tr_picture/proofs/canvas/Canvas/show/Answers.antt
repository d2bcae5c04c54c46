use Rattle.std.proofs.Common.{◌∙◌, ◌+◌, ℕ, ap, length, sym}
use Rattle.tr_workers.specs.Follows.{heard}
use Rattle.tr_scenario.specs.RunTexts.{call_of}
use Rattle.tr_picture.specs.Drawn.{Drawn}
use Rattle.tr_figures.specs.Elements.{printed}
use Rattle.tr_picture.specs.Rows.{row_inside}
use Rattle.tr_picture.proofs.Pictured.{shown_is}
use Rattle.tr_picture.proofs.Rowed.{row_is_something}
use Rattle.tr_picture.proofs.canvas.Canvas.show.Goals as goal

pub returns : goal.returns
returns c =
    shown_is c.args.self.now _ _ c.args.line.now _ _ _ _ (length c.args.kernel.now.journal) c.args.done.now c.args.before.now c.args.kernel.now.table _ (call_of c.args.actor c.args.event.now) (heard c.args.answer.now) c.push_row.result
    c.self.view_is c.clear.ensures c.position.ensures c.table.ensures c.in_ok-push_row_inside.ensures c.as_bytes.ensures c.push_row.ensures

pub returns-then-is_full : goal.returns-then-is_full
returns-then-is_full c =
    let i = c.self.inside in
    let v : Drawn = record { layout = i.layout; calls = i.calls; rows = i.rows; times = i.times; last = i.last; lost = i.lost; text = i.page } in
    let d : Drawn = c.args.self.now in
    let n = length c.args.kernel.now.journal in
    let T = c.args.kernel.now.table in
    let q = call_of c.args.actor c.args.event.now in
    let x = heard c.args.answer.now in
    ap (λ (k : ℕ). record v { lost = k }) c.in_ok-self-inside.ensures
    ∙ ap (λ (y : Drawn). record y { lost = y.lost + 1 }) c.self.view_is
    ∙ sym (c.is_full.ensures c.if-is_full.true (printed (row_inside d.layout c.args.line.now n c.args.done.now c.args.before.now T q x)) (row_is_something d.layout c.args.line.now n c.args.done.now c.args.before.now T q x))
