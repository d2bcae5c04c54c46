-- The JSON object that a scenario with calls in place of its job is written as.
use Rattle.std.specs.Prelude.{◌≡◌, ◌≤◌, ℕ, All, List, codes, length, map, Option, Some, None, Ok, false}
use Rattle.serde_json.specs.Data.{Data, Members, no_members, object, put}
use Rattle.serde_json.specs.Find.{get}
use Rattle.serde_json.specs.Read.{read}
use Rattle.serde_json.specs.Written.{compact_text, has_float}
use Rattle.tr_starts.specs.declared.starts.Start.{Start}
use Rattle.tr_model.specs.Runs.{Call}
use Rattle.tr_reading.specs.declared.scenarios.Job.TheVariants.{Steps}
use Rattle.tr_reading.specs.declared.scenarios.Scenario.{Scenario}
use Rattle.tr_reading.specs.Scenarios.{json_of, scenario_of}
use Rattle.tr_encoding.specs.Calls.{CanBeRead, call_data, step_of_call}
use Rattle.tr_encoding.specs.Sets.{array_data, number_data}

-- put where it is there
abbrev pub put_some : List ℕ → Option Data → Members → Members
put_some key None ms = ms
put_some key (Some d) ms = put key d ms

-- what stands at a key of another object
abbrev pub keep : List ℕ → Data → Members → Members
keep key d ms = put_some key (get key d) ms

-- the scenario of this start whose steps are the calls
abbrev pub scenario_data : Data → List Call → Data
scenario_data d cs =
    object (put (codes "steps") (array_data (map call_data cs)) (keep (codes "groups") d (keep (codes "entries") d (keep (codes "limit") d (put (codes "version") (number_data 1) no_members)))))

-- the text is read as the value; it is the one without blanks, unless the value has a float
abbrev pub IsTextOf : Data → List ℕ → Type 0
IsTextOf d text = (read text ≡ Some d) × (has_float d ≡ false → text ≡ compact_text d)

-- the text is that of the scenario that the bytes are, with the calls for its steps
abbrev pub HasText : List ℕ → List Call → List ℕ → Type 0
HasText bytes cs text = (d : Data) × ((json_of bytes ≡ Ok d) × IsTextOf (scenario_data d cs) text)

-- the steps that make calls once each, in order, from a start on
abbrev pub as_steps : Start → List Call → Scenario
as_steps start cs = record { start = start; job = Steps (map step_of_call cs) }

-- the text is read as these steps, where they aren't too many, nor the text too long
abbrev pub IsReadAs : Start → List Call → List ℕ → Type 0
IsReadAs start cs text = length cs ≤ 10000 → length text ≤ 1048576 → scenario_of text ≡ Ok (as_steps start cs)

-- so it is where the bytes are a scenario and the calls can be read
abbrev pub ReadsBack : List ℕ → List Call → List ℕ → Type 0
ReadsBack bytes cs text = (s : Scenario) → scenario_of bytes ≡ Ok s → All CanBeRead cs → IsReadAs s.start cs text
