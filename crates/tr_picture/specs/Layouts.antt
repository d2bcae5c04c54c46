-- Where the lanes of actors, threads and groups are.
use Rattle.std.specs.Prelude.{◌≡◌, ℕ, ◌≤◌, ◌+◌, ◌-◌, ◌*◌, ◌==◌, List, [], ◌∷◌, ◌++◌, Bool, if◌then◌else◌, length, take, Option, Some, None}
use Rattle.std.specs.List.{list_any}
use Rattle.tr_model.specs.declared.rows.Target.{Target}
use Rattle.tr_model.specs.declared.rows.Target.TheVariants.{Group, Thread}
use Rattle.tr_model.specs.Tables.{same_target}
use Rattle.tr_picture.specs.declared.layouts.Layout.{Layout}

-- where the lane of this actor begins, if it has one; the first of these lanes begins at x
abbrev pub actor_place : ℕ → List ℕ → ℕ → Option ℕ
actor_place x [] actor = None
actor_place x (a ∷ rest) actor = if a == actor then Some x else actor_place (x + 118) rest actor

-- where the lane of this thread or group begins, if it has one
abbrev pub lane_place : ℕ → List Target → Target → Option ℕ
lane_place x [] t = None
lane_place x (l ∷ ls) t = if same_target t l then Some x else lane_place (x + 292) ls t

-- nobody has no lane
abbrev pub aimed_place : ℕ → List Target → Option Target → Option ℕ
aimed_place x ls None = None
aimed_place x ls (Some t) = lane_place x ls t

abbrev pub has_lane : List Target → Target → Bool
has_lane ls t = list_any (same_target t) ls

-- where the lanes of threads and groups begin
abbrev pub lanes_left : Layout → ℕ
lanes_left L = 654 + 118 * length L.actors

-- where they end
abbrev pub lanes_right : Layout → ℕ
lanes_right L = lanes_left L + 292 * length L.lanes

-- few lanes of actors, and few of threads and groups
pub record IsSmall (L : Layout) : Type 0 where
  pub actors : length L.actors ≤ 8
  pub lanes : length L.lanes ≤ 64

-- with at most 8 lanes of actors, and at most 16 of threads and 16 of groups, which are counted
pub record IsLaidOut (L : Layout) : Type 0 where
  pub actors : length L.actors ≤ 8
  pub lanes : length L.lanes ≡ L.threads + L.groups
  pub threads : L.threads ≤ 16
  pub groups : L.groups ≤ 16

abbrev pub with_thread_lane : Layout → ℕ → Layout
with_thread_lane L id = record L { lanes = L.lanes ++ Thread id ∷ []; threads = L.threads + 1 }

abbrev pub with_group_lane : Layout → ℕ → Layout
with_group_lane L g = record L { lanes = L.lanes ++ Group g ∷ []; groups = L.groups + 1 }

-- the first of the actors have lanes
abbrev pub layout_of : List ℕ → Layout
layout_of actors = record { actors = take 8 actors; lanes = []; threads = 0; groups = 0; hidden_actors = length actors - 8; hidden_threads = 0; hidden_groups = 0 }
