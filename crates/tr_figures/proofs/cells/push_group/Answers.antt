use Rattle.tr_figures.proofs.Celled.{group_told}
use Rattle.tr_figures.proofs.cells.push_group.Goals as goal

pub returns : goal.returns
returns c = group_told _ _ _ _ c.args.x c.args.group.now _ c.style_of_group-style.ensures c.in_ok-push_rect.ensures c.in_ok-push_group_words.ensures c.in_ok-push_report.ensures
