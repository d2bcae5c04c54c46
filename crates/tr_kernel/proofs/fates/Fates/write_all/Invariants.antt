use Rattle.std.proofs.Common.{◌≡◌, drop}
use Rattle.tr_kernel.specs.Private.{endings_noted}
use Rattle.tr_kernel.proofs.fates.Fates.write_all.Given as goal

abbrev pub invariant-loop-ending : goal.invariant-loop-ending
invariant-loop-ending l = endings_noted (drop l.ending-index l.ended) l.self.fates ≡ endings_noted l.fn.ended l.fn.self.fates
