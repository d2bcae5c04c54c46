use Rattle.std.proofs.Common.{◌≡◌, drop}
use Rattle.tr_table.specs.Choices.{goes_first, open_in}
use Rattle.tr_table.proofs.choices.goes_first.Given as goal

abbrev pub invariant-loop-slot : goal.invariant-loop-slot
invariant-loop-slot l = goes_first (open_in l.target l.blocked (drop l.slot-index l.slots)) l.instance ≡ goes_first (open_in l.target l.blocked l.slots) l.instance
