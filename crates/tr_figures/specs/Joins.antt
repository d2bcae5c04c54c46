-- Arrows from the lane of one thread to that of another: of a clone, and of an id that passed on.
use Rattle.std.specs.Prelude.{ℕ, ◌+◌, List, [], ◌∷◌, nat_lt, if◌then◌else◌, codes, decimal, Option, Some, None}
use Rattle.tr_model.specs.declared.replies.Reply.TheVariants.{Cloned}
use Rattle.tr_model.specs.declared.rows.Target.{Target}
use Rattle.tr_model.specs.declared.rows.Target.TheVariants.{Thread}
use Rattle.tr_model.specs.Runs.{Answer, Entered}
use Rattle.tr_figures.specs.declared.styles.Style.TheVariants as style
use Rattle.tr_figures.specs.Elements.{Elements, all, line, none, rect, words}

-- the thread whose id a thread took
abbrev pub taken_id : List ℕ → Option Target
taken_id [] = None
taken_id (id ∷ ids) = Some (Thread id)

-- the thread that a thread made, or whose id it took
abbrev pub joined : Answer → List ℕ → Option Target
joined (Entered (Cloned id)) ids = Some (Thread id)
joined x ids = taken_id ids

-- from the block of one lane to that of another, on its right or its left, where it ends in a dot
abbrev pub rightward : ℕ → ℕ → Elements
rightward x y = all (line style.Joins (x + 248) 16 (y + 124) 16 ∷ rect style.Joins (y + 118) 13 6 6 ∷ [])

abbrev pub leftward : ℕ → ℕ → Elements
leftward x y = all (line style.Joins (x + 124) 16 (y + 248) 16 ∷ rect style.Joins (y + 248) 13 6 6 ∷ [])

abbrev pub join : ℕ → ℕ → Elements
join x y = if nat_lt x y then rightward x y else leftward x y

-- where both have a lane
abbrev pub join_at : Option ℕ → Option ℕ → Elements
join_at (Some x) (Some y) = join x y
join_at _ _ = none

-- in the lane of the id that a thread had: the id that it took
abbrev pub renamed_at : Option ℕ → List ℕ → Elements
renamed_at (Some x) (id ∷ ids) = words style.Joins (x + 128) 30 (codes "now " ∷ decimal id ∷ [])
renamed_at _ _ = none

-- the lane of the thread that makes the call, and that of the other
abbrev pub joins : Option ℕ → Option ℕ → List ℕ → Elements
joins lane other ids = all (join_at lane other ∷ renamed_at lane ids ∷ [])
