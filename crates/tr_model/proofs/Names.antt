-- A take gives no thread's id to another thread.
use Rattle.std.proofs.Common.{◌≡◌, ℕ, [], Some, refl}
use Rattle.std.proofs.lemmas.Option.{none-some}
use Rattle.tr_model.specs.Choices.{Choice}
use Rattle.tr_model.specs.declared.events.Event.{Event}
use Rattle.tr_model.specs.declared.events.Event.TheVariants as event
use Rattle.tr_model.specs.GroupStops
use Rattle.tr_model.specs.Journals.{Taken, taken_of}
use Rattle.tr_model.specs.Moves
use Rattle.tr_model.specs.Steps
use Rattle.tr_model.specs.Tables.{Table}
use Rattle.tr_model.proofs.Bounds.{renames_nothing}

pub take_renames_nothing : (T : Table) (a : ℕ) (e : Event) (c : Choice) (k : Taken) → taken_of T e c ≡ Some k → (GroupStops.complete_group_stops (Steps.work_of_event a e c (Moves.begin T))).renamed ≡ []
take_renames_nothing T a (event.Take id) c k q = renames_nothing T (record { actor = a; event = event.Take id; choice = c }) refl
take_renames_nothing T a (event.TakeAny g) c k q = renames_nothing T (record { actor = a; event = event.TakeAny g; choice = c }) refl
take_renames_nothing T a e c k q = absurd (none-some k q)
