use Rattle.std.proofs.Common.{◌≡◌, drop}
use Rattle.tr_kernel.specs.Notes.{times}
use Rattle.tr_kernel.proofs.notes.times.Given as goal

abbrev pub invariant-loop-entry : goal.invariant-loop-entry
invariant-loop-entry l = times l.id (drop l.entry-index l.transfers) ≡ times l.id l.transfers
