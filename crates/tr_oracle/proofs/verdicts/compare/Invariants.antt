use Rattle.std.proofs.Common.{Result, drop}
use Rattle.tr_kernel.specs.States.{State}
use Rattle.tr_oracle.specs.declared.verdicts.Unheard.{Unheard}
use Rattle.tr_oracle.specs.declared.verdicts.Verdict.{Verdict}
use Rattle.tr_oracle.specs.Verdicts.{Finds, record_of}
use Rattle.tr_oracle.proofs.Finding.{FindsFrom}
use Rattle.tr_oracle.proofs.verdicts.compare.Given as goal

abbrev pub invariant-loop-place : goal.invariant-loop-place
invariant-loop-place l = (r : Result Verdict Unheard) (u : State) → FindsFrom l.place l.kernel (record_of (drop l.place l.answers)) r u → Finds l.fn.kernel (record_of l.answers) r u
