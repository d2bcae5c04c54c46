-- What waits with a number.
use Rattle.std.specs.Prelude.{ℕ, ◌==◌, List, [], ◌∷◌, Option, Some, None, if◌then◌else◌}
use Rattle.tr_model.specs.declared.rows.Waiting.{Waiting}

-- the first that waits with the number
abbrev pub waiting_in : List Waiting → ℕ → Option Waiting
waiting_in [] n = None
waiting_in (q ∷ qs) n = if q.instance.n == n then Some q else waiting_in qs n
