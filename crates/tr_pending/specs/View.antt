-- What a contract sees of a queue.
use Rattle.std.specs.Prelude.{ℕ, ◌+◌, List, length}
use Rattle.tr_pending.specs.declared.instance.Instance.{Instance}

-- the instances that wait, in order of acceptance, and how many places are reserved for more
pub record QueueView : Type 0 where
  pub waiting : List Instance
  pub room : ℕ

-- how many places it has, taken or not
abbrev pub places : QueueView → ℕ
places q = length q.waiting + q.room
