-- A text that is composed from its end on.
use Rattle.std.specs.Prelude.{ℕ, List}

-- the text so far, and how many bytes still have room before it
pub record Composed : Type 0 where
  pub text : List ℕ
  pub room : ℕ
