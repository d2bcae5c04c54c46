use Rattle.std.proofs.Common.{◌≡◌, drop}
use Rattle.tr_picture.specs.Rows.{last_report}
use Rattle.tr_picture.proofs.rows.last_report.Given as goal

abbrev pub invariant-loop-raise : goal.invariant-loop-raise
invariant-loop-raise l = last_report l.last (drop l.raise-index l.raises) ≡ last_report l.first l.raises
