-- Numbers that rise.
use Rattle.std.specs.Prelude.{ℕ, List, [], ◌∷◌, if◌then◌else◌, nat_lt, Option, Some, None}

-- the last of these numbers, where each is above those before it and above n
abbrev pub last_ascending : ℕ → List ℕ → Option ℕ
last_ascending n [] = Some n
last_ascending n (x ∷ xs) = if nat_lt n x then last_ascending x xs else None
