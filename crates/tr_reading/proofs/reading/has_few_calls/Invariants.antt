use Rattle.std.proofs.Common.{◌≡◌, ◌+◌, drop}
use Rattle.tr_reading.specs.Workers.{calls_of}
use Rattle.tr_reading.proofs.reading.has_few_calls.Given as goal

abbrev pub invariant-loop-script : goal.invariant-loop-script
invariant-loop-script l = l.left + calls_of l.scripts ≡ 100000 + calls_of (drop l.script-index l.scripts)
