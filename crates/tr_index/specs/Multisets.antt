-- What a contract sees of a multiset of numbers.
use Rattle.std.specs.Prelude.{◌≡◌, ℕ, ◌==◌, ◌-◌, ◌<◌, ◌≤◌, Bool, false, List, Option, Some, None, if◌then◌else◌, nat_lt}
use Rattle.tr_model.specs.Journals.{occurs}

-- numbers, each as often as it counts, and how many there are places for
pub record MultisetView : Type 0 where
  pub numbers : List ℕ
  pub places : ℕ

-- it is this number
abbrev pub is_number : ℕ → Option ℕ → Bool
is_number n None = false
is_number n (Some m) = m == n

-- the least number that counts and isn't below n, or none where all that count are below
abbrev pub IsNextFrom : ℕ → List ℕ → Option ℕ → Type 0
IsNextFrom n ns None = (k : ℕ) → n ≤ k → occurs k ns ≡ 0
IsNextFrom n ns (Some m) = (n ≤ m) × (1 ≤ occurs m ns) × ((k : ℕ) → n ≤ k → k < m → occurs k ns ≡ 0)

-- a number above n is one less
abbrev pub lowered : ℕ → ℕ → ℕ
lowered n m = if nat_lt n m then m - 1 else m
