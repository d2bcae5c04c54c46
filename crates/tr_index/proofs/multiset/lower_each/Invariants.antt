use Rattle.std.proofs.Common.{◌≡◌, map, take, drop, ◌++◌}
use Rattle.tr_index.specs.Multisets.{lowered}
use Rattle.tr_index.proofs.multiset.lower_each.Given as goal

abbrev pub invariant-loop-m : goal.invariant-loop-m
invariant-loop-m l = l.numbers ≡ map (lowered l.n) (take l.m-index l.fn.numbers) ++ drop l.m-index l.fn.numbers
