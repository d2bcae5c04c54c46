use Rattle.std.proofs.Common.{◌≡◌, ◌+◌, ◌*◌, ◌++◌, drop}
use Rattle.tr_figures.specs.Cells.{cells}
use Rattle.tr_figures.specs.Elements.{printed}
use Rattle.tr_figures.proofs.cells.push_cells.Given as goal

abbrev pub invariant-loop-lane : goal.invariant-loop-lane
invariant-loop-lane l = record {
  text : l.page ++ printed (cells l.told l.left l.table.table (drop l.lane-index l.lanes)) ≡ l.fn.page ++ printed (cells l.told l.x l.table.table l.lanes);
  left : l.left ≡ l.x + 292 * l.lane-index;
}
