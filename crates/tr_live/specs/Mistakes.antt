-- What is told of a line that is refused.
use Rattle.std.specs.Prelude.{ℕ, List, [], ◌∷◌, Option, Some, None, Result, Ok, Err, codes, ◌||◌, if◌then◌else◌, is_err}
use Rattle.std.specs.Str.{bytes_eq}
use Rattle.serde_json.specs.Data.{Data}
use Rattle.serde_json.specs.Find.{as_str, get}
use Rattle.tr_starts.specs.declared.starts.Start.{Start}
use Rattle.tr_reading.specs.declared.faults.ScenarioFault.{ScenarioFault}
use Rattle.tr_reading.specs.Fields.{id_at, no_key_but, number_at}
use Rattle.tr_reading.specs.Scenarios.{repeats_in_start, start_of}
use Rattle.tr_mistakes.specs.declared.wanted.Wanted.TheVariants.{Id}
use Rattle.tr_mistakes.specs.Events.{field_mistake, step_mistake}
use Rattle.tr_mistakes.specs.Groups.{start_fields_mistake}
use Rattle.tr_mistakes.specs.Parts.{in_object, keys_mistake, wanted_at}
use Rattle.tr_mistakes.specs.Wholes.{start_mistake, twice_mistake}

-- The first line

-- the keys of a scenario without steps
abbrev pub opening_keys : List (List ℕ)
opening_keys = codes "version" ∷ codes "limit" ∷ codes "entries" ∷ codes "groups" ∷ []

-- once the fields are read: a further key, or what no kernel can start from
abbrev pub opening_mistake_of : Result Start ScenarioFault → Data → List ℕ
opening_mistake_of (Err e) d = start_fields_mistake d
opening_mistake_of (Ok s) d =
    if is_err (no_key_but opening_keys d) then keys_mistake opening_keys d
    else if repeats_in_start s then twice_mistake s.groups
    else start_mistake s.groups

-- the version, and then the rest
abbrev pub opening_fields_mistake : Data → List ℕ
opening_fields_mistake d =
    if is_err (number_at (codes "version") 1 1 d) then wanted_at (codes "version") (codes ": 1 is wanted") d
    else opening_mistake_of (start_of d) d

-- of a scenario without steps
abbrev pub opening_mistake : Data → List ℕ
opening_mistake d = in_object opening_fields_mistake d

-- The others

-- a status is that of a thread
abbrev pub status_mistake : Data → List ℕ
status_mistake d = if is_err (id_at (codes "tid") d) then field_mistake Id (codes "tid") d else keys_mistake (codes "show" ∷ codes "tid" ∷ []) d

-- what there is to show
abbrev pub shown_mistake : Option (List ℕ) → Data → List ℕ
shown_mistake None d = codes ".show: `status`, `totals` or `table` is wanted"
shown_mistake (Some name) d =
    if bytes_eq name (codes "status") then status_mistake d
    else if bytes_eq name (codes "totals") || bytes_eq name (codes "table") then keys_mistake (codes "show" ∷ []) d
    else codes ".show: `status`, `totals` or `table` is wanted"

-- by whether something is to be shown
abbrev pub command_mistake_in : Option Data → Data → List ℕ
command_mistake_in None d = step_mistake d
command_mistake_in (Some v) d = shown_mistake (as_str v) d

-- of a command
abbrev pub command_mistake : Data → List ℕ
command_mistake d = command_mistake_in (get (codes "show") d) d
