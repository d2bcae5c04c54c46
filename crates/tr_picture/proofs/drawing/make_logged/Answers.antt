use Rattle.std.proofs.Common.{◌∙◌, ap, sym}
use Rattle.tr_kernel.specs.Logs.{logged}
use Rattle.tr_workers.specs.Follows.{heard}
use Rattle.tr_scenario.specs.RunTexts.{call_of}
use Rattle.tr_scenario.proofs.Made.{answer_line_is_text, call_is_made, is_made, made_answers}
use Rattle.tr_picture.proofs.Pictured.{entered_is}
use Rattle.tr_picture.proofs.drawing.make_logged.Goals as goal

pub returns-clause-line : goal.returns-clause-line
returns-clause-line c =
    let old = c.args.kernel.now in
    let new = c.call_logged.new.self in
    let call = call_of c.args.actor c.args.event.now in
    let x = c.in_ok-answer.answer in
    let e = c.in_ok-answer.ensures in
    let made = call_is_made old new call x (sym c.lacks_memory.ensures ∙ c.if-lacks_memory.false) e.entered e.room e.read e.refused e.unchanged in
    rw (answer_line_is_text old new call x made e.receipt) c.in_ok-push_line.ensures

pub returns-clause-makes : goal.returns-clause-makes
returns-clause-makes c =
    let old = c.args.kernel.now in
    let new = c.call_logged.new.self in
    let call = call_of c.args.actor c.args.event.now in
    let x = c.in_ok-answer.answer in
    let e = c.in_ok-answer.ensures in
    let made = call_is_made old new call x (sym c.lacks_memory.ensures ∙ c.if-lacks_memory.false) e.entered e.room e.read e.refused e.unchanged in
    is_made old new call (heard x) made

pub returns-clause-answer : goal.returns-clause-answer
returns-clause-answer c =
    let old = c.args.kernel.now in
    let new = c.call_logged.new.self in
    let call = call_of c.args.actor c.args.event.now in
    let x = c.in_ok-answer.answer in
    let e = c.in_ok-answer.ensures in
    let enough = sym c.lacks_memory.ensures ∙ c.if-lacks_memory.false in
    let made = call_is_made old new call x enough e.entered e.room e.read e.refused e.unchanged in
    made_answers old new call x made enough e.receipt e.read e.unchanged

pub returns-clause-done : goal.returns-clause-done
returns-clause-done c =
    c.in_ok-answer.ensures.logged ∙ ap (λ b. logged b c.args.kernel.now.table (call_of c.args.actor c.args.event.now)) (entered_is c.in_ok-answer.answer)
