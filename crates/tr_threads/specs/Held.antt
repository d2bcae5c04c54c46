-- How many threads hold an instance.
use Rattle.std.specs.Prelude.{ℕ, ◌+◌, List, [], ◌∷◌, is_some}
use Rattle.tr_tracee.specs.declared.thread.Thread.{Thread}
use Rattle.tr_tracee.specs.Lives.{held}
use Rattle.tr_index.specs.Counts.{bool_to_nat}

-- how many threads hold an instance at a signal-delivery-stop
abbrev pub held_count : List Thread → ℕ
held_count [] = 0
held_count (t ∷ ts) = bool_to_nat (is_some (held t.life)) + held_count ts
