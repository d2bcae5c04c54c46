use Rattle.std.proofs.Common.{◌≡◌, drop}
use Rattle.tr_picture.specs.Drawn.{with_groups}
use Rattle.tr_picture.proofs.canvas.Canvas.add_groups.Given as goal

abbrev pub invariant-loop-group : goal.invariant-loop-group
invariant-loop-group l = with_groups l.self (drop l.group-index l.groups) ≡ with_groups l.fn.self l.groups
