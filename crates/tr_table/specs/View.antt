-- What a contract sees of a table.
use Rattle.std.specs.Prelude.{ℕ}
use Rattle.tr_model.specs.Tables.{Table}

-- the model's table, and for how many more instances a place is reserved
pub record View : Type 0 where
  pub table : Table
  pub room : ℕ
