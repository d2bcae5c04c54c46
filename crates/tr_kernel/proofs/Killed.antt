-- After a KILL.
use Rattle.std.proofs.Common.{ℕ, zero, suc, ◌≤◌, length, take, arith}
use Rattle.std.proofs.lemmas.Option.{none-some}
use Rattle.tr_model.proofs.Dying.{only_dying}
use Rattle.tr_starts.specs.Starts.{table_of}
use Rattle.tr_kernel.specs.Laws.{OnlyDyingAt}
use Rattle.tr_kernel.specs.Positions.{table_at}
use Rattle.tr_kernel.specs.States.{IsHistory, State}
use Rattle.tr_kernel.proofs.Cuts.{killed_there, replay_to}

pub only_dying_at : (k : State) → IsHistory k → (i j : ℕ) → i ≤ j → j ≤ length k.journal → OnlyDyingAt (table_of k.start) k.journal i j
only_dying_at k h zero j l m g q = absurd (none-some q.0 q.1)
only_dying_at k h (suc i) j l m g q =
    let T = table_of k.start in
    only_dying T (table_at T k.journal j) (take j k.journal) (take j k.replies) (replay_to j T k.table k.journal k.replies h.replayed m) g (killed_there T k.journal i j g q.0 q.1 (omega arith) q.2)
