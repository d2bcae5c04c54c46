-- The first mistake of a scenario that is refused.
use Rattle.std.specs.Prelude.{ℕ, ◌==◌, nat_le, ◌&&◌, List, [], ◌∷◌, ◌++◌, Option, Some, None, Result, Ok, Err, codes, if◌then◌else◌, is_err}
use Rattle.serde_json.specs.Data.{Data, Items}
use Rattle.serde_json.specs.Find.{as_array, get}
use Rattle.tr_reading.specs.declared.faults.ScenarioFault.{ScenarioFault}
use Rattle.tr_reading.specs.declared.scenarios.Scenario.{Scenario}
use Rattle.tr_reading.specs.Fields.{number_at}
use Rattle.tr_reading.specs.Scenarios.{job_key, job_of, start_of, walk}
use Rattle.tr_reading.specs.Steps.{count_of, step_of}
use Rattle.tr_reading.specs.Workers.{worker_of}
use Rattle.tr_mistakes.specs.Events.{step_mistake}
use Rattle.tr_mistakes.specs.Groups.{start_fields_mistake}
use Rattle.tr_mistakes.specs.Parts.{in_object, key_part, keys_mistake, refused_member, wanted_at, whole_number}
use Rattle.tr_mistakes.specs.Wholes.{whole_mistake}
use Rattle.tr_mistakes.specs.Workers.{worker_mistake}

-- The object, field by field

-- steps: a list that isn't too long, then each
abbrev pub steps_listed : Option Items → List ℕ
steps_listed None = codes ": a list is wanted"
steps_listed (Some ds) = if nat_le (count_of ds) 10000 then refused_member step_of step_mistake 0 ds else codes ": more than 10000 steps"

-- workers: a list of 1 to 64, then each
abbrev pub workers_listed : Option Items → List ℕ
workers_listed None = codes ": a list is wanted"
workers_listed (Some ds) = if nat_le 1 (count_of ds) && nat_le (count_of ds) 64 then refused_member worker_of worker_mistake 0 ds else codes ": 1 to 64 workers are wanted"

-- what stands at `steps`
abbrev pub steps_mistake : Option Data → List ℕ
steps_mistake None = codes ": is missing"
steps_mistake (Some v) = steps_listed (as_array v)

-- what stands at `workers`
abbrev pub workers_mistake : Option Data → List ℕ
workers_mistake None = codes ": is missing"
workers_mistake (Some v) = workers_listed (as_array v)

-- version 1 has steps, version 2 workers
abbrev pub job_mistake : ℕ → Data → List ℕ
job_mistake version d =
    if version == 1
    then key_part (codes "steps") ++ steps_mistake (get (codes "steps") d)
    else key_part (codes "workers") ++ workers_mistake (get (codes "workers") d)

-- once the version is known
abbrev pub version_mistake : Result ℕ ScenarioFault → Data → List ℕ
version_mistake (Err e) d = wanted_at (codes "version") (whole_number 1 2) d
version_mistake (Ok version) d =
    if is_err (start_of d) then start_fields_mistake d
    else if is_err (job_of version d) then job_mistake version d
    else keys_mistake (codes "version" ∷ codes "limit" ∷ codes "entries" ∷ codes "groups" ∷ job_key version ∷ []) d

-- the object from its first field to its last, and its keys
abbrev pub fields_of_scenario_mistake : Data → List ℕ
fields_of_scenario_mistake d = version_mistake (number_at (codes "version") 1 2 d) d

-- where it is read, it is refused as a whole
abbrev pub walked_mistake : Result Scenario ScenarioFault → Data → List ℕ
walked_mistake (Err e) d = in_object fields_of_scenario_mistake d
walked_mistake (Ok s) d = whole_mistake s

-- of a scenario
abbrev pub scenario_mistake : Data → List ℕ
scenario_mistake d = walked_mistake (walk d) d
