-- Seats, and who may have one.
use Rattle.std.specs.Prelude.{◌≡◌, ℕ, ◌+◌, ◌-◌, ◌^◌, ◌≤◌, ◌<◌, ◌⊎◌, List, [], ◌∷◌, Contains, min}
use Rattle.tr_model.specs.declared.events.Event.{Event}
use Rattle.tr_model.specs.declared.events.Event.TheVariants.{Wait, StarterWait}
use Rattle.tr_model.specs.declared.replies.Reply.TheVariants.{Nothing}
use Rattle.tr_kernel.specs.declared.answers.Answer.{Answer}
use Rattle.tr_kernel.specs.declared.answers.Answer.TheVariants.{Entered, Read, Refused}
use Rattle.tr_hub.specs.declared.waits.WaitCall.{WaitCall}
use Rattle.tr_hub.specs.declared.waits.WaitCall.TheVariants.{Tracer, Starter}

-- whose seat it is, how many calls and how many entries were made from it, and how many signals these accepted
pub record SeatState : Type 0 where
  pub actor : ℕ
  pub calls : ℕ
  pub entries : ℕ
  pub accepted : ℕ

-- a seat from which nothing was called
abbrev pub new_seat : ℕ → SeatState
new_seat actor = record { actor = actor; calls = 0; entries = 0; accepted = 0 }

-- so many calls more, as far as 64 bits can count
abbrev pub more_calls : ℕ → ℕ → ℕ
more_calls calls n = min (calls + n) (2 ^ 64 - 1)

-- the seat after so many calls, of which the last was answered so and those before it made no entry: an entry adds one,
-- and what it accepted
abbrev pub seat_tried : ℕ → SeatState → Answer → SeatState
seat_tried n s (Entered receipt) = record { actor = s.actor; calls = more_calls s.calls n; entries = s.entries + 1; accepted = s.accepted + receipt.accepted }
seat_tried n s (Read reply) = record { actor = s.actor; calls = more_calls s.calls n; entries = s.entries; accepted = s.accepted }
seat_tried n s (Refused why) = record { actor = s.actor; calls = more_calls s.calls n; entries = s.entries; accepted = s.accepted }

-- the seat after one call
abbrev pub seat_after : SeatState → Answer → SeatState
seat_after s answer = seat_tried 1 s answer

-- A wait of at most so many turns has tried as often as it had to: once or more if there is a turn at all, and on every
-- turn where the last try found nothing.
pub record HasTried (turns : ℕ) (old new : SeatState) (answer : Answer) : Type 0 where
  pub tries : ℕ
  pub within : tries ≤ turns
  pub some : 0 < turns → 0 < tries
  pub all : answer ≡ Read Nothing → tries ≡ turns
  pub none : tries ≡ 0 → new ≡ old
  pub seat : 0 < tries → new ≡ seat_tried tries old answer

-- some number stands twice
abbrev pub HasRepeat : List ℕ → Type 0
HasRepeat [] = ⊥
HasRepeat (x ∷ xs) = Contains xs x ⊎ HasRepeat xs

-- the event that a wait tries
abbrev pub event_of : WaitCall → Event
event_of (Tracer which) = Wait which
event_of (Starter which flags) = StarterWait which flags
