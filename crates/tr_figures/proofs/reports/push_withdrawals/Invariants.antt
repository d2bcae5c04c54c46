use Rattle.std.proofs.Common.{◌≡◌, ◌+◌, ◌*◌, ◌++◌, drop}
use Rattle.tr_figures.specs.Elements.{printed}
use Rattle.tr_figures.specs.Reports.{withdrawals}
use Rattle.tr_figures.proofs.reports.push_withdrawals.Given as goal

abbrev pub invariant-loop-shown : goal.invariant-loop-shown
invariant-loop-shown l = record {
  text : l.page ++ printed (withdrawals l.left l.table.table l.taken (drop l.shown-index l.before)) ≡ l.fn.page ++ printed (withdrawals l.x l.table.table l.taken l.before);
  left : l.left ≡ l.x + 292 * l.shown-index;
}
