-- What only private functions' contracts cite.
use Rattle.std.specs.Prelude.{ℕ, ◌*◌, ◌≤◌, List, [], ◌∷◌}
use Rattle.tr_scenario.specs.declared.rounds.Player.{Player}

-- its counts are at most those of so many answers, each of at most 1,024 signals
pub record IsLow (answers : ℕ) (p : Player) : Type 0 where
  pub entries : p.tally.entries ≤ answers
  pub accepted : p.tally.accepted ≤ answers * 1024
  pub refused : p.tally.refused ≤ answers

-- each of the players
abbrev pub AreLow : ℕ → List Player → Type 0
AreLow n [] = Unit {0}
AreLow n (p ∷ ps) = IsLow n p × AreLow n ps
