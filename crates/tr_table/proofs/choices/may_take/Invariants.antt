use Rattle.std.proofs.Common.{◌≡◌, ◌==◌, drop, filter}
use Rattle.std.specs.List.{list_any}
use Rattle.tr_table.specs.Choices.{goes_first, open_in}
use Rattle.tr_table.proofs.choices.may_take.Given as goal

abbrev pub invariant-loop-slot : goal.invariant-loop-slot
invariant-loop-slot l =
    list_any (λ i. i.n == l.n) (filter (goes_first (open_in l.target l.blocked l.slots)) (open_in l.target l.blocked (drop l.slot-index l.slots)))
    ≡ list_any (λ i. i.n == l.n) (filter (goes_first (open_in l.target l.blocked l.slots)) (open_in l.target l.blocked l.slots))
