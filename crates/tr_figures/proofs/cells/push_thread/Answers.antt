use Rattle.tr_figures.proofs.Celled.{thread_told}
use Rattle.tr_figures.proofs.cells.push_thread.Goals as goal

pub returns : goal.returns
returns c = thread_told _ _ _ _ _ _ c.args.x c.args.thread.now _ c.style_of_life-style.ensures c.in_ok-push_rect.ensures c.in_ok-push_life.ensures c.in_ok-push_trace.ensures c.in_ok-push_marks.ensures c.in_ok-push_report.ensures
