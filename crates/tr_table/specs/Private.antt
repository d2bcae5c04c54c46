-- What private contracts say.
use Rattle.std.specs.Prelude.{◌≡◌, ℕ, ◌<◌, ◌≤◌, List, filter, is_some, length, map, remove, slice_get, slice_set, get_or, Option, Some, None}
use Rattle.tr_group.specs.GroupStops.{is_stopping}
use Rattle.tr_model.specs.declared.rows.Group.{Group}
use Rattle.tr_model.specs.Journals.{occurs}
use Rattle.tr_model.specs.Moves.{group_changed}
use Rattle.tr_model.specs.Tables.{group_in}

-- a change of the first group with the id is one at this place, where it is found; there is none where no group has the id
abbrev pub IsGroupPlace : ℕ → List Group → Option ℕ → Type 0
IsGroupPlace g xs None = ((f : Group → Group) → group_changed g f xs ≡ xs) × (group_in xs g ≡ None)
IsGroupPlace g xs (Some i) = (i < length xs) × ((f : Group → Group) (d y : Group) → y ≡ f (get_or xs i d) → slice_set xs i y ≡ group_changed g f xs) × (group_in xs g ≡ slice_get xs i) × ((d : Group) → (get_or xs i d).tgid ≡ g)

-- the group with the id has gone from this place, or none has gone
abbrev pub IsGone : ℕ → List Group → List Group → Option ℕ → Type 0
IsGone g xs ys None = ys ≡ xs
IsGone g xs ys (Some i) = (i < length xs) × ((d : Group) → (get_or xs i d).tgid ≡ g) × (ys ≡ remove xs i)

-- none of the numbers is from the one up to before the other
abbrev pub NoneFrom : ℕ → ℕ → List ℕ → Type 0
NoneFrom from end ns = (k : ℕ) → from ≤ k → k < end → occurs k ns ≡ 0

-- the least of the numbers from the one up to before the other, if there is one
abbrev pub IsNextPlace : ℕ → ℕ → List ℕ → Option ℕ → Type 0
IsNextPlace from end ns None = NoneFrom from end ns
IsNextPlace from end ns (Some i) = (from ≤ i) × (i < end) × NoneFrom from i ns

-- the ids of the groups, in their order
abbrev pub tgids_of : List Group → List ℕ
tgids_of xs = map (λ x. x.tgid) xs

-- how many group-stops of the list are under way
abbrev pub stopping_in : List Group → ℕ
stopping_in xs = length (filter (λ x. is_stopping x.group_stop) xs)

-- how many groups of the list have a note
abbrev pub noted_in : List Group → ℕ
noted_in xs = length (filter (λ x. is_some x.note) xs)

-- what is kept beside the groups: where the group of an id stands, how many group-stops are under way, and how many
-- groups have a note; they are few
pub record IsGroups (xs : List Group) (ids : List ℕ) (n m : ℕ) : Type 0 where
  pub indexed : ids ≡ tgids_of xs
  pub counted : n ≡ stopping_in xs
  pub noted : m ≡ noted_in xs
  pub few : length xs ≤ 1024
