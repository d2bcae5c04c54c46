use Rattle.std.proofs.Common.{◌≡◌, drop}
use Rattle.tr_model.specs.Steps.{fate_in}
use Rattle.tr_signals.proofs.kills.fate_in.Given as goal

abbrev pub invariant-loop-ending : goal.invariant-loop-ending
invariant-loop-ending l = fate_in (drop l.ending-index l.ended) l.n ≡ fate_in l.ended l.n
