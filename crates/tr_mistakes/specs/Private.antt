-- What only private functions' contracts cite.
use Rattle.std.specs.Prelude.{ℕ, List, [], Bool, true, false, Option, Some, None, Result, Ok, Err}
use Rattle.std.specs.declared.alloc.AllocError.{AllocError}
use Rattle.std.specs.declared.alloc.Global.{Global}
use Rattle.std.specs.Prelude.{String, string_bytes}
use Rattle.tr_reading.specs.declared.faults.ScenarioFault.{ScenarioFault}
use Rattle.tr_reading.specs.declared.faults.ScenarioFault.TheVariants.{NoMemory}
use Rattle.tr_mistakes.specs.Parts.{unknown_key}

-- whether a reading is refused, unless memory was
abbrev pub refusal : {T : Type 0} → Result T ScenarioFault → Result Bool AllocError
refusal (Ok x) = Ok false
refusal (Err NoMemory) = Err (record {})
refusal (Err e) = Ok true

-- what is told of a key, if there is one
abbrev pub told_key : Option (String Global) → List ℕ
told_key None = []
told_key (Some key) = unknown_key (string_bytes key)
