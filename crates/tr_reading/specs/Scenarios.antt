-- The scenario that bytes are, or the first fault in them.
use Rattle.std.specs.Prelude.{◌≡◌, ◌⊎◌, ℕ, ◌≤◌, ◌==◌, List, [], ◌∷◌, Bool, false, not, ◌&&◌, ◌||◌, nat_le, if◌then◌else◌, Option, Some, None, Result, Ok, Err, codes, length, map, sum_by}
use Rattle.std.specs.List.{list_any}
use Rattle.std.specs.Str.{is_utf8}
use Rattle.serde_json.specs.Data.{Data}
use Rattle.serde_json.specs.Read.{read}
use Rattle.tr_starts.specs.declared.starts.Start.{Start}
use Rattle.tr_starts.specs.Starts.{ids_started, is_good, no_repeat}
use Rattle.tr_workers.specs.declared.scripts.Script.{Script}
use Rattle.tr_reading.specs.declared.faults.ScenarioFault.{ScenarioFault}
use Rattle.tr_reading.specs.declared.faults.ScenarioFault.TheVariants.{BadStart, NoMemory, NotJson, Repeated, TooLarge}
use Rattle.tr_reading.specs.declared.scenarios.Job.{Job}
use Rattle.tr_reading.specs.declared.scenarios.Job.TheVariants.{Steps, Workers}
use Rattle.tr_reading.specs.declared.scenarios.Scenario.{Scenario}
use Rattle.tr_reading.specs.declared.steps.Step.{Step}
use Rattle.tr_reading.specs.Fields.{◌>>=◌, id_at, list_at, no_key_but, number_at}
use Rattle.tr_reading.specs.Groups.{group_of}
use Rattle.tr_reading.specs.Steps.{step_of, steps_at}
use Rattle.tr_reading.specs.Workers.{calls_of, members_of, workers_at}

-- The object, field by field

-- version 1 has steps, version 2 workers
abbrev pub job_key : ℕ → List ℕ
job_key version = if version == 1 then codes "steps" else codes "workers"

-- what stands there
unfoldable pub job_of : ℕ → Data → Result Job ScenarioFault
job_of version d =
    if version == 1
    then (steps_at (codes "steps") step_of d >>= λ steps. Ok (Steps steps))
    else (workers_at (codes "workers") d >>= λ scripts. Ok (Workers scripts))

-- where a kernel starts from
unfoldable pub start_of : Data → Result Start ScenarioFault
start_of d = do
  limit ← id_at (codes "limit") d
  entries ← id_at (codes "entries") d
  groups ← list_at (codes "groups") group_of d
  Ok (record { groups = groups; limit = limit; entries = entries })

-- the object from its first field to its last, and no other key
unfoldable pub walk : Data → Result Scenario ScenarioFault
walk d = do
  version ← number_at (codes "version") 1 2 d
  start ← start_of d
  job ← job_of version d
  _ ← no_key_but (codes "version" ∷ codes "limit" ∷ codes "entries" ∷ codes "groups" ∷ job_key version ∷ []) d
  Ok (record { start = start; job = job })

-- The whole, after the walk

-- how many calls the steps are
abbrev pub calls_of_steps : List Step → ℕ
calls_of_steps steps = sum_by (λ s. s.times) steps

-- at most 10,000 items and ops, and at most 100,000 calls
abbrev pub is_small : Job → Bool
is_small (Steps steps) = nat_le (calls_of_steps steps) 100000
is_small (Workers scripts) = nat_le (members_of scripts) 10000 && nat_le (calls_of scripts) 100000

-- two threads have one id, or a group has two actions of one signal
abbrev pub repeats_in_start : Start → Bool
repeats_in_start s = not (no_repeat (ids_started s.groups)) || list_any (λ g. not (no_repeat (map (λ a. a.0) g.actions))) s.groups

-- two workers are of one actor
abbrev pub repeats_actor : Job → Bool
repeats_actor (Steps steps) = false
repeats_actor (Workers scripts) = not (no_repeat (map (λ (x : Script). x.actor) scripts))

-- something stands twice that may stand once
abbrev pub has_repeats : Scenario → Bool
has_repeats s = repeats_in_start s.start || repeats_actor s.job

-- what is looked at after all fields: how much there is, what stands twice, and the start
unfoldable pub whole : Scenario → Result Scenario ScenarioFault
whole s =
    if is_small s.job
    then (if has_repeats s then Err Repeated else (if is_good s.start then Ok s else Err BadStart))
    else Err TooLarge

-- The bytes

-- no value is NotJson
abbrev pub json_from : Option Data → Result Data ScenarioFault
json_from None = Err NotJson
json_from (Some d) = Ok d

-- the value that serde_json has for the bytes
unfoldable pub json_of : List ℕ → Result Data ScenarioFault
json_of bytes = if is_utf8 bytes then json_from (read bytes) else Err NotJson

-- what f reads of the value that the bytes are, or their first fault
abbrev pub read_by : {A : Type 0} → (Data → Result A ScenarioFault) → List ℕ → Result A ScenarioFault
read_by f bytes = if nat_le (length bytes) 1048576 then (json_of bytes >>= f) else Err TooLarge

-- the scenario that the bytes are, or their first fault
unfoldable pub scenario_of : List ℕ → Result Scenario ScenarioFault
scenario_of bytes = read_by (λ d. walk d >>= whole) bytes

-- the size is allowed, and serde_json has no value for the bytes
abbrev pub HasNoValue : List ℕ → Type 0
HasNoValue bytes = (length bytes ≤ 1048576) × (json_of bytes ≡ Err NotJson)

-- NotJson comes exactly there, but where memory is refused
abbrev pub IsExact : {A : Type 0} → List ℕ → Result A ScenarioFault → Type 0
IsExact bytes (Ok s) = HasNoValue bytes → ⊥
IsExact bytes (Err e) = (e ≡ NotJson → HasNoValue bytes) × (HasNoValue bytes → (e ≡ NotJson) ⊎ (e ≡ NoMemory))
