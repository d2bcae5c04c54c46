-- Moves of the model that a table makes, and says what a step is to note of them.
use Rattle.std.specs.Prelude.{◌≡◌, ℕ, ◌++◌, Option}
use Rattle.std.specs.Option.{option_to_list}
use Rattle.tr_model.specs.declared.raises.Raise.{Raise}
use Rattle.tr_model.specs.Moves.{Work}
use Rattle.tr_table.specs.View.{View}

-- whatever the step did before, the move is that of the table, and this report is raised, if any
pub record Raises (f : Work → Work) (old new : View) (r : Option Raise) : Type 0 where
  pub work : (w : Work) → w.table ≡ old.table → f w ≡ record w { table = new.table; raises = w.raises ++ option_to_list r }
  pub room : new.room ≡ old.room

-- the same, and this id passes to another thread, if any
pub record Renames (f : Work → Work) (old new : View) (r : Option ℕ) : Type 0 where
  pub work : (w : Work) → w.table ≡ old.table → f w ≡ record w { table = new.table; renamed = w.renamed ++ option_to_list r }
  pub room : new.room ≡ old.room
