use Rattle.std.proofs.Common.{◌≡◌, ◌+◌, ℕ, ◌≤◌}
use Rattle.std.specs.Prelude.{vec_capacity, vec_len}
use Rattle.tr_index.specs.Pages.{number_at}
use Rattle.tr_index.proofs.pages.Pages.open.Given as goal

abbrev pub invariant-loop : goal.invariant-loop
invariant-loop l = (vec_len l.self-inside.pages ≡ l.counter) × (l.page + 1 ≤ vec_capacity l.self-inside.pages) × ((n : ℕ) → number_at l.self-inside.pages.items n ≡ number_at l.initial.self-inside.pages.items n)
