-- Where a thread stands in a list, and what is kept beside the list.
use Rattle.std.specs.Prelude.{◌≡◌, ℕ, ◌<◌, ◌≤◌, List, [], filter, length, map, remove, slice_get, slice_set, get_or, Option, Some, None}
use Rattle.tr_pending.specs.declared.instance.Instance.{Instance}
use Rattle.tr_tracee.specs.declared.thread.Thread.{Thread}
use Rattle.tr_tracee.specs.Lives.{held}
use Rattle.tr_tracee.specs.Threads.{in_group}
use Rattle.tr_model.specs.declared.fates.Ending.{Ending}
use Rattle.tr_model.specs.declared.fates.Fate.TheVariants.{Flushed}
use Rattle.tr_model.specs.Moves.{changed, dropped, ended_by_change, in_leaders_row, renamed}
use Rattle.tr_model.specs.Tables.{ids_of, thread_in}
use Rattle.tr_model.specs.Journals.{occurs}
use Rattle.tr_threads.specs.declared.tracing.Tracing.{Tracing}
use Rattle.tr_threads.specs.Rosters.{RosterView, roster_in, roster_of}
use Rattle.tr_threads.specs.Tracing.{HasPlaces, IsTracing}

-- a change of the first thread with the id is one at this place, where it is found, and its removal too; neither does
-- anything where no thread has the id
abbrev pub IsPlace : ℕ → List Thread → Option ℕ → Type 0
IsPlace id ts None = ((f : Thread → Thread) → changed id f ts ≡ ts) × (dropped id ts ≡ ts) × (thread_in ts id ≡ None)
IsPlace id ts (Some i) = (i < length ts) × ((f : Thread → Thread) (d y : Thread) → y ≡ f (get_or ts i d) → slice_set ts i y ≡ changed id f ts) × (remove ts i ≡ dropped id ts) × (thread_in ts id ≡ slice_get ts i) × ((d : Thread) → (get_or ts i d).id ≡ id)

-- the dead leader of the thread stands at this place, and the thread takes its row by a change there; there is no such
-- leader where it is none
abbrev pub IsLeaderPlace : Thread → List Thread → Option ℕ → Type 0
IsLeaderPlace t ts None = map (in_leaders_row t) ts ≡ ts
IsLeaderPlace t ts (Some i) = (i < length ts) × ((d : Thread) → (get_or ts i d).id ≡ t.group) × (slice_set ts i (renamed t.group t) ≡ map (in_leaders_row t) ts)

-- what the thread holds, if it is there
abbrev pub held_by : Option Thread → Option Instance
held_by None = None
held_by (Some t) = held t.life

-- what it holds, and gives up as f takes it out of its stop
abbrev pub ends_of : (Thread → Thread) → Option Thread → List Ending
ends_of f None = []
ends_of f (Some t) = ended_by_change Flushed f t

-- what is kept beside the threads: where the thread of an id stands, and the roster of each group; no two have one id,
-- and a group's are few
pub record IsThreads (ts : List Thread) (ids : List ℕ) (rosters : List (ℕ × RosterView)) : Type 0 where
  pub indexed : ids ≡ ids_of ts
  pub once : (n : ℕ) → occurs n ids ≤ 1
  pub told : (g : ℕ) → roster_in rosters g ≡ roster_of (filter (in_group g) ts)
  pub few : (g : ℕ) → length (filter (in_group g) ts) ≤ 64

-- and what is kept for the waits of tracers, with a place for each thread
pub record IsKept (ts : List Thread) (ids : List ℕ) (rosters : List (ℕ × RosterView)) (tracing : Tracing) : Type 0 where
  pub rostered : IsThreads ts ids rosters
  pub traced : IsTracing ts tracing
  pub places : HasPlaces (length ts) tracing
