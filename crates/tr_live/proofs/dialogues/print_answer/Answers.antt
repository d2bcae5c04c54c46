use Rattle.std.proofs.Common.{◌++◌, [], codes, option_map, refl}
use Rattle.std.proofs.lemmas.Result.{err_from_is_err_and}
use Rattle.tr_scenario.proofs.Filled.{fills_pushed, halts_first, halts_unpushed, prints_kept}
use Rattle.tr_live.specs.Dialogues.{answer, session_of}
use Rattle.tr_live.proofs.dialogues.print_answer.Goals as goal

pub returns-in_err-fill_answer-clause-said : goal.returns-in_err-fill_answer-clause-said
returns-in_err-fill_answer-clause-said g c =
    let p = err_from_is_err_and c.from_residual.result c.from_residual.ensures.1 in
    let f = c.in_err-fill_answer.ensures.fills in
    let text = (answer f.0 (option_map session_of c.args.kernel.now) c.args.line.now).text in
    rw (p.1, p.2) (text ++ codes "\n", (f.0, f.1, refl), halts_first _ _ [] text (codes "\n") _ _ _ (rw c.clear.ensures at f.2))

pub returns-in_err-push-clause-said : goal.returns-in_err-push-clause-said
returns-in_err-push-clause-said g c =
    let p = err_from_is_err_and c.from_residual-in_err-push.result c.from_residual-in_err-push.ensures.1 in
    let f = c.in_ok-fill_answer.ensures.fills in
    let text = (answer f.0 (option_map session_of c.args.kernel.now) c.args.line.now).text in
    rw (p.1, p.2) (text ++ codes "\n", (f.0, f.1, refl), halts_unpushed g.W.Sink.taken g.W.Sink.failures c.args.writer.now c.fill_answer.new.writer [] c.fill_answer.new.page text (codes "\n") (rw c.clear.ensures at f.2))

pub returns-clause-said : goal.returns-clause-said
returns-clause-said g c =
    let f = c.in_ok-fill_answer.ensures.fills in
    let text = (answer f.0 (option_map session_of c.args.kernel.now) c.args.line.now).text in
    let taken = g.W.Sink.taken in
    let failures = g.W.Sink.failures in
    let pushed = fills_pushed taken failures c.args.writer.now c.fill_answer.new.writer [] c.fill_answer.new.page c.push.new.self text (codes "\n") (rw c.clear.ensures at f.2) c.in_ok-push.ensures.ok in
    (text ++ codes "\n", (f.0, f.1, refl), prints_kept taken failures c.args.writer.now c.fill_answer.new.writer c.print_kept.new.writer c.push.new.self (text ++ codes "\n") c.print_kept.result pushed c.print_kept.ensures.prints)
