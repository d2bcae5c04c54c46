-- What one of those that are counted counts.
use Rattle.std.specs.Prelude.{ℕ, Bool, if◌then◌else◌}

-- one where it holds, else none
abbrev pub bool_to_nat : Bool → ℕ
bool_to_nat b = if b then 1 else 0
