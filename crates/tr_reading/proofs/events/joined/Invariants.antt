use Rattle.std.proofs.Common.{◌≡◌, drop}
use Rattle.tr_tracee.specs.Threads.{no_options}
use Rattle.tr_reading.specs.Events.{joined}
use Rattle.tr_reading.proofs.events.joined.Given as goal

abbrev pub invariant-loop-options : goal.invariant-loop-options
invariant-loop-options l = joined l.joined (drop l.options-index l.all) ≡ joined no_options l.all
