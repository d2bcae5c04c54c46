-- What a JSON value means as a step, and how often a call is made.
use Rattle.std.specs.Prelude.{ℕ, ◌+◌, ◌-◌, ◌^◌, List, [], ◌∷◌, ◌++◌, nat_le, if◌then◌else◌, Option, Some, None, Result, Ok, Err, codes}
use Rattle.serde_json.specs.Data.{Data, Items, no_items, item}
use Rattle.serde_json.specs.Find.{as_array, get}
use Rattle.tr_reading.specs.declared.faults.ScenarioFault.{ScenarioFault}
use Rattle.tr_reading.specs.declared.faults.ScenarioFault.TheVariants.{TooLarge}
use Rattle.tr_reading.specs.declared.steps.Step.{Step}
use Rattle.tr_reading.specs.Events.{event_of}
use Rattle.tr_reading.specs.Fields.{◌>>=◌, each, field_at, needed, no_key_but, number_at, number_in}
use Rattle.tr_reading.specs.Kinds.{fields_of, kind_at}

-- once, where there is no such key; else 1 to 100,000
abbrev pub times_in : Option Data → Result ℕ ScenarioFault
times_in None = Ok 1
times_in (Some v) = number_in 1 100000 v

-- how often a call is made
unfoldable pub times_of : Data → Result ℕ ScenarioFault
times_of d = times_in (get (codes "times") d)

-- a step: its actor, its event, how often it is made, and no key but these and its event's fields
unfoldable pub step_among : List (List ℕ) → Data → Result Step ScenarioFault
step_among keys d = do
  actor ← number_at (codes "actor") 1 (2 ^ 32 - 1) d
  kind ← kind_at (codes "do") d
  event ← event_of kind d
  times ← times_of d
  _ ← no_key_but (keys ++ fields_of kind) d
  Ok (record { actor = actor; event = event; times = times })

-- a step with no further key
unfoldable pub step_of : Data → Result Step ScenarioFault
step_of d = step_among (codes "actor" ∷ codes "do" ∷ codes "times" ∷ []) d

-- how many members a list has
abbrev pub count_of : Items → ℕ
count_of no_items = 0
count_of (item d ds) = count_of ds + 1

-- a list of steps, each read so; too many are met before the first of them
unfoldable pub steps_at : {A : Type 0} → List ℕ → (Data → Result A ScenarioFault) → Data → Result (List A) ScenarioFault
steps_at key f d = do
  v ← field_at key d
  ds ← needed (as_array v)
  if nat_le (count_of ds) 10000 then each f ds else Err TooLarge
