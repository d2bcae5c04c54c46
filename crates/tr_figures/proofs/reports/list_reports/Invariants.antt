use Rattle.std.proofs.Common.{◌≡◌, ◌++◌, drop, map}
use Rattle.tr_figures.specs.Reports.{lane_report}
use Rattle.tr_figures.proofs.reports.list_reports.Given as goal

abbrev pub invariant-loop-lane : goal.invariant-loop-lane
invariant-loop-lane l = l.reports.items ++ map (lane_report l.table.table) (drop l.lane-index l.lanes) ≡ l.fn.reports.items ++ map (lane_report l.table.table) l.lanes
