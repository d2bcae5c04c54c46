-- How many threads hold an instance.
use Rattle.std.proofs.Common.{◌+◌, ◌≤◌, List, [], ◌∷◌, Bool, true, false, suc, length, is_some, arith}
use Rattle.tr_tracee.specs.declared.thread.Thread.{Thread}
use Rattle.tr_tracee.specs.Lives.{held}
use Rattle.tr_index.specs.Counts.{bool_to_nat}
use Rattle.tr_threads.specs.Held.{held_count}

-- no more threads hold one than there are
pub few_of_all : (ts : List Thread) → held_count ts ≤ length ts
few_of_all [] = omega arith
few_of_all (t ∷ ts) = go (is_some (held t.life)) (few_of_all ts)
  where
    go : (b : Bool) → held_count ts ≤ length ts → bool_to_nat b + held_count ts ≤ suc (length ts)
    go true h = omega (arith, h)
    go false h = omega (arith, h)
