-- What every table keeps.
use Rattle.std.specs.Prelude.{ℕ, ◌≤◌, List, filter, length}
use Rattle.tr_tracee.specs.declared.thread.Thread.{Thread}
use Rattle.tr_tracee.specs.Threads.{in_group}
use Rattle.tr_model.specs.declared.rows.Group.{Group}
use Rattle.tr_queues.specs.declared.pending.Pending.{Pending}
use Rattle.tr_queues.specs.Slots.{IsPending, standing}
use Rattle.tr_model.specs.Journals.{AllUpTo, occurs}
use Rattle.tr_model.specs.Tables.{ids_of}
use Rattle.tr_table.specs.declared.unsettled.Unsettled.{Unsettled}
use Rattle.tr_table.specs.Settled.{NoneBut, is_listed}

-- what waits is kept as it should be, and was accepted
pub record IsOrdered (pending : Pending) (accepted : ℕ) : Type 0 where
  pub kept : IsPending pending
  pub numbered : AllUpTo accepted (standing pending.slots.items)

-- no two threads have one id, and no group has more than 64 threads
pub record IsRoster (threads : List Thread) : Type 0 where
  pub distinct : (n : ℕ) → occurs n (ids_of threads) ≤ 1
  pub few : (g : ℕ) → length (filter (in_group g) threads) ≤ 64

-- no group comes after the start, and a start has at most 1,024; what is told unsettled is all that may be
pub record IsTable (threads : List Thread) (groups : List Group) (pending : Pending) (accepted : ℕ) (unsettled : Unsettled) (telling : List ℕ) : Type 0 where
  pub roster : IsRoster threads
  pub few : length groups ≤ 1024
  pub ordered : IsOrdered pending accepted
  pub settled : NoneBut unsettled threads groups (is_listed groups telling)
