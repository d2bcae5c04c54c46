use Rattle.std.proofs.Common.{◌≡◌, ◌+◌, ℕ, ◌≤◌, get_or}
use Rattle.std.specs.Prelude.{vec_capacity, vec_len}
use Rattle.tr_index.proofs.pages.Page.open.Given as goal

abbrev pub invariant-loop : goal.invariant-loop
invariant-loop l = (vec_len l.self-inside.numbers ≡ l.counter) × (l.at + 1 ≤ vec_capacity l.self-inside.numbers) × ((i : ℕ) → get_or l.self-inside.numbers.items i 0 ≡ get_or l.initial.self-inside.numbers.items i 0)
