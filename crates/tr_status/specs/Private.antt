-- What only private functions' contracts cite.
use Rattle.std.specs.Prelude.{ℕ}
use Rattle.tr_group.specs.declared.stops.Action.{Action}
use Rattle.tr_group.specs.declared.stops.Action.TheVariants.{Default, Ignore, Catch}

-- an action as a number of its own
abbrev pub code_of : Action → ℕ
code_of Default = 0
code_of Ignore = 1
code_of Catch = 2
