use Rattle.std.proofs.Common.{◌≡◌, ◌==◌, ℕ, take, true}
use Rattle.std.specs.BTreeSet.{contains}
use Rattle.std.specs.List.{list_any}
use Rattle.std.specs.Ordering.{nat_cmp}
use Rattle.tr_starts.specs.Starts.{no_repeat}
use Rattle.tr_reading.proofs.reading.repeats.Given as goal

abbrev pub invariant-loop-number : goal.invariant-loop-number
invariant-loop-number l = record {
  once : no_repeat (take l.number-index l.numbers) ≡ true;
  seen : (q : ℕ) → contains nat_cmp l.seen q ≡ list_any (λ n. n == q) (take l.number-index l.numbers);
}
