use Rattle.std.proofs.Common.{◌≡◌, drop}
use Rattle.tr_reading.specs.Fields.{with_bits}
use Rattle.tr_reading.proofs.fields.set_of.Given as goal

abbrev pub invariant-loop-signal : goal.invariant-loop-signal
invariant-loop-signal l = with_bits l.bits (drop l.signal-index l.signals) ≡ with_bits 0 l.signals
