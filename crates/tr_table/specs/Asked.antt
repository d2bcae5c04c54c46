-- Whom a wait asks for.
use Rattle.std.specs.Prelude.{ℕ, ◌==◌, Bool, true, Option, Some, None}

-- the id is the one, or any
abbrev pub is_asked : Option ℕ → ℕ → Bool
is_asked None n = true
is_asked (Some id) n = id == n
