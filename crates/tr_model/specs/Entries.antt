-- An entry of the journal: one step.
use Rattle.std.specs.Prelude.{◌≡◌, ℕ}
use Rattle.tr_model.specs.declared.events.Event.{Event}
use Rattle.tr_model.specs.declared.events.Event.TheVariants as event
use Rattle.tr_model.specs.Choices.{Choice, gives_id, gives_report, no_choice, packed_id, packed_number, takes_by, takes_instance}

-- who asked for it, what was asked for, what was chosen where the model leaves it free
pub record Entry : Type 0 where
  pub actor : ℕ
  pub event : Event
  pub choice : Choice

-- As it is kept: the event tells what was chosen, by a number and an id

abbrev pub choice_in : Event → ℕ → ℕ → Choice
choice_in (event.Take tid) n id = takes_instance n
choice_in (event.TakeAny tgid) n id = takes_by id n
choice_in (event.Wait which) n id = gives_report n
choice_in (event.StarterWait which flags) n id = gives_report n
choice_in (event.CloneThread tid) n id = gives_id id
choice_in _ n id = no_choice

-- the choice is one of what the event leaves open
abbrev pub Fits : Event → Choice → Type 0
Fits e c = choice_in e (packed_number c) (packed_id c) ≡ c
