use Rattle.std.proofs.Common.{◌≡◌, ℕ, ◌≤◌, ◌<◌, false}
use Rattle.tr_kernel.specs.Private.{restarts_at}
use Rattle.tr_kernel.proofs.restarts.first_restart.Given as goal

abbrev pub invariant-loop-place : goal.invariant-loop-place
invariant-loop-place l = (p : ℕ) → l.from ≤ p → p < l.place → restarts_at l.stop l.tracer l.journal.entries l.journal.notes l.dying p ≡ false
