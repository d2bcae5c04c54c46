-- Where a number stands in a list.
use Rattle.std.specs.Prelude.{ℕ, ◌==◌, List}
use Rattle.std.specs.List.{position_or_len}

-- where the number stands first, or the length where it doesn't stand
abbrev pub place_in : ℕ → List ℕ → ℕ
place_in n ns = position_or_len (λ m. m == n) ns
