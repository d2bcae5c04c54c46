-- Numbers of ids, by pages of 256 ids in a row.
use Rattle.std.specs.Prelude.{ℕ, suc, ◌/◌, ◌%◌, ◌<◌, ◌==◌, ◌≤◌, ◌≡◌, List, [], Option, Some, None, get_or, if◌then◌else◌, length, nat_lt}
use Rattle.std.specs.List.{position}
use Rattle.tr_model.specs.Journals.{occurs}

-- the page of an id
abbrev pub page_with : List (List ℕ) → ℕ → List ℕ
page_with pages id = get_or pages (id / 256) []

-- the number of an id, 0 where its page has none
abbrev pub number_at : List (List ℕ) → ℕ → ℕ
number_at pages id = get_or (page_with pages id) (id % 256) 0

-- the page of the id has a place for its number
abbrev pub IsOpen : List (List ℕ) → ℕ → Type 0
IsOpen pages id = id % 256 < length (page_with pages id)

-- one more than where it is, or 0 where it is nowhere
abbrev pub counted_from_one : Option ℕ → ℕ
counted_from_one None = 0
counted_from_one (Some i) = suc i

-- no id stands twice, and the number of each is its place, counted from 1
pub record IsIndex (ids : List ℕ) (pages : List (List ℕ)) : Type 0 where
  pub once : (n : ℕ) → occurs n ids ≤ 1
  pub told : (n : ℕ) → number_at pages n ≡ counted_from_one (position (λ m. m == n) ids)

-- the number that a place has, counted from 1, or one more from place i on
abbrev pub number_moved : ℕ → Option ℕ → ℕ
number_moved i None = 0
number_moved i (Some p) = if nat_lt p i then suc p else suc (suc p)

-- the number of each id is its place, counted from 1, but those from place i on are one higher
abbrev pub IsMoved : ℕ → List ℕ → List (List ℕ) → Type 0
IsMoved i ids pages = (n : ℕ) → number_at pages n ≡ number_moved i (position (λ m. m == n) ids)
