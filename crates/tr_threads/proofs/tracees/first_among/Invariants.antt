use Rattle.std.proofs.Common.{◌≡◌, drop, map}
use Rattle.tr_threads.specs.Tracing.{first_of, reports}
use Rattle.tr_threads.proofs.tracees.first_among.Given as goal

abbrev pub invariant-loop-row : goal.invariant-loop-row
invariant-loop-row l = first_of (reports l.actor l.number) l.threads (map (λ r. r.id) (drop l.row-index l.rows)) ≡ first_of (reports l.actor l.number) l.threads (map (λ r. r.id) l.rows)
