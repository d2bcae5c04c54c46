use Rattle.std.proofs.Common.{◌≡◌, ◌==◌, ℕ, [], drop, take}
use Rattle.std.specs.BTreeSet.{contains}
use Rattle.std.specs.List.{list_any}
use Rattle.std.specs.Ordering.{nat_cmp}
use Rattle.tr_mistakes.specs.Wholes.{again}
use Rattle.tr_mistakes.proofs.wholes.repeated.Given as goal

abbrev pub invariant-loop-number : goal.invariant-loop-number
invariant-loop-number l = record {
  rest : again (take l.number-index l.numbers) (drop l.number-index l.numbers) ≡ again [] l.numbers;
  seen : (q : ℕ) → contains nat_cmp l.seen q ≡ list_any (λ n. n == q) (take l.number-index l.numbers);
}
