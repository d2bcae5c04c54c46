use Rattle.std.proofs.Common.{arith}
use Rattle.tr_model.specs.declared.rows.Target.TheVariants.{Thread}
use Rattle.tr_figures.proofs.Celled.{cells_next}
use Rattle.tr_figures.proofs.cells.push_cells.Goals as goal

pub loop-lane-preserved : goal.loop-lane-preserved
loop-lane-preserved c = record {
  text = cells_next _ _ _ c.args.told c.loop-lane.left c.args.table.now.table c.args.lanes.now c.loop-lane.lane-index (Thread 0) c.loop-lane-test.true c.loop-lane.invariant.text c.in_ok-push_cell.ensures;
  left = omega (arith, c.loop-lane.invariant.left);
}
