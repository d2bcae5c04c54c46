-- What waits, from the slots that it stands in.
use Rattle.std.specs.Prelude.{◌≡◌, ℕ, ◌+◌, ◌<◌, ◌≤◌, ◌-◌, ◌^◌, Bool, true, false, ◌||◌, get_or, List, [], ◌∷◌, if◌then◌else◌, filter, length, map, vec_len, vec_capacity}
use Rattle.indexmap.specs.IndexMap.{IndexMap, index_map_len, spare}
use Rattle.tr_model.specs.declared.rows.Waiting.{Waiting}
use Rattle.tr_model.specs.Journals.{IsSorted}
use Rattle.tr_model.specs.Moves.{retargeted}
use Rattle.tr_queues.specs.declared.pending.Pending.{Pending}
use Rattle.tr_queues.specs.declared.slots.Slot.{Slot}
use Rattle.tr_queues.specs.Lines.{AreLines}
use Rattle.tr_queues.specs.Queues.{count_own, is_one}

-- what still waits
abbrev pub standing : List Slot → List Waiting
standing [] = []
standing (s ∷ ss) = if s.gone then standing ss else s.waiting ∷ standing ss

-- what still waits of the line of this instance
abbrev pub line_in : Waiting → List Slot → List Waiting
line_in w ss = filter (is_one w.target w.instance.sig) (standing ss)

-- what waits or has waited
abbrev pub all_in : List Slot → List Waiting
all_in ss = map (λ s. s.waiting) ss

-- a slot whose instance waits no more
abbrev pub emptied : Slot → Slot
emptied s = record s { gone = true }

-- with what waits for one thread waiting for another
abbrev pub retargeted_slot : ℕ → ℕ → Slot → Slot
retargeted_slot from to s = record s { waiting = retargeted from to s.waiting }

-- without what the test picks: its slots stay
abbrev pub without_picked : (Waiting → Bool) → Slot → Slot
without_picked p s = record s { gone = s.gone || p s.waiting }

-- the last one still waits, where there is one
abbrev pub IsTrimmed : List Slot → Type 0
IsTrimmed ss = (s : Slot) → 0 < length ss → (get_or ss (length ss - 1) s).gone ≡ false

-- a map has places for this many more entries, and for so many beside these even when it is built anew
pub record HasPlaces {K V S : Type 0} (m : IndexMap K V S) (count room : ℕ) : Type 0 where
  pub more : room ≤ spare m
  pub anew : count + room ≤ index_map_len m + spare m

-- what is kept of all that waits
pub record IsPending (p : Pending) : Type 0 where
  -- the slots are in order of acceptance
  pub sorted : IsSorted (all_in p.slots.items)
  pub lines : AreLines p.lines p.queues (standing p.slots.items)
  pub counted : p.count ≡ length (standing p.slots.items)
  pub counted_own : p.own ≡ count_own (standing p.slots.items)
  pub small : p.count + p.room < 2 ^ 64
  -- for as many more as `room` says there are places
  pub slot_places : vec_len p.slots + p.room ≤ vec_capacity p.slots
  pub line_places : HasPlaces p.lines p.count p.room
  pub queue_places : HasPlaces p.queues p.count p.room
