-- The first mistake of an event's fields, of a step and of an item.
use Rattle.std.specs.Prelude.{ℕ, ◌-◌, ◌^◌, List, [], ◌∷◌, ◌++◌, Bool, ◌||◌, Option, Some, None, Result, Ok, Err, codes, if◌then◌else◌, is_err}
use Rattle.std.specs.Str.{bytes_eq}
use Rattle.serde_json.specs.Data.{Data}
use Rattle.serde_json.specs.Find.{get}
use Rattle.tr_reading.specs.declared.faults.ScenarioFault.{ScenarioFault}
use Rattle.tr_reading.specs.declared.kinds.Kind.{Kind}
use Rattle.tr_reading.specs.Events.{event_of, option_of, options_at}
use Rattle.tr_reading.specs.Fields.{flag_at, id_at, number_at, set_at, signal_of, value_at}
use Rattle.tr_reading.specs.Groups.{how_at}
use Rattle.tr_reading.specs.Kinds.{fields_of, kind_at}
use Rattle.tr_reading.specs.Steps.{times_of}
use Rattle.tr_reading.specs.Workers.{op_kind_at, repeat_of}
use Rattle.tr_mistakes.specs.declared.wanted.Wanted.{Wanted}
use Rattle.tr_mistakes.specs.declared.wanted.Wanted.TheVariants.{Id, Byte, Value, Flag, How, Signals, Options}
use Rattle.tr_mistakes.specs.Parts.{in_object, keys_mistake, list_mistake, wanted_at, whole_number}

-- Fields

-- what is wanted at a field of an event
abbrev pub wanted_of : List ℕ → Wanted
wanted_of key =
    if bytes_eq key (codes "sig") then Byte
    else if bytes_eq key (codes "value") then Value
    else if bytes_eq key (codes "untraced") || bytes_eq key (codes "continued") then Flag
    else if bytes_eq key (codes "how") then How
    else if bytes_eq key (codes "set") then Signals
    else if bytes_eq key (codes "options") then Options
    else Id

-- it isn't there
abbrev pub is_refused : Wanted → List ℕ → Data → Bool
is_refused Id key d = is_err (id_at key d)
is_refused Byte key d = is_err (number_at key 0 255 d)
is_refused Value key d = is_err (value_at key d)
is_refused Flag key d = is_err (flag_at key d)
is_refused How key d = is_err (how_at key d)
is_refused Signals key d = is_err (set_at key d)
is_refused Options key d = is_err (options_at key d)

-- a signal of a list
abbrev pub signal_mistake : Data → List ℕ
signal_mistake d = codes ": a signal, 1 to 64, is wanted"

-- an option of a list
abbrev pub option_mistake : Data → List ℕ
option_mistake d = codes ": `clone`, `exec`, `exit` or `exitkill` is wanted"

-- what is told of the field
abbrev pub field_mistake : Wanted → List ℕ → Data → List ℕ
field_mistake Id key d = wanted_at key (whole_number 0 (2 ^ 32 - 1)) d
field_mistake Byte key d = wanted_at key (whole_number 0 255) d
field_mistake Value key d = wanted_at key (codes ": a whole number from -2147483648 to 2147483647 is wanted") d
field_mistake Flag key d = wanted_at key (codes ": true or false is wanted") d
field_mistake How key d = wanted_at key (codes ": `default`, `ignore` or `catch` is wanted") d
field_mistake Signals key d = list_mistake key signal_of signal_mistake d
field_mistake Options key d = list_mistake key option_of option_mistake d

-- the first of these fields that is refused
abbrev pub fields_mistake : List (List ℕ) → Data → List ℕ
fields_mistake [] d = []
fields_mistake (key ∷ keys) d = if is_refused (wanted_of key) key d then field_mistake (wanted_of key) key d else fields_mistake keys d

-- Steps

-- by the event that `do` names, which some name has to be
abbrev pub by_kind : List ℕ → (Kind → Data → List ℕ) → Result Kind ScenarioFault → Data → List ℕ
by_kind wanted mistake (Err e) d = wanted_at (codes "do") wanted d
by_kind wanted mistake (Ok kind) d = mistake kind d

-- an event has a name
abbrev pub event_wanted : List ℕ
event_wanted = codes ": the name of an event is wanted"

-- after the actor and the event's name
abbrev pub made_mistake : List (List ℕ) → Kind → Data → List ℕ
made_mistake keys kind d =
    if is_err (event_of kind d) then fields_mistake (fields_of kind) d
    else if is_err (times_of d) then wanted_at (codes "times") (whole_number 1 100000) d
    else keys_mistake (keys ++ fields_of kind) d

-- the actor, the event's name, its fields, how often, and the keys
abbrev pub step_fields_mistake : List (List ℕ) → Data → List ℕ
step_fields_mistake keys d =
    if is_err (number_at (codes "actor") 1 (2 ^ 32 - 1) d) then wanted_at (codes "actor") (whole_number 1 (2 ^ 32 - 1)) d
    else by_kind event_wanted (made_mistake keys) (kind_at (codes "do") d) d

-- a step with no further key
abbrev pub step_mistake : Data → List ℕ
step_mistake d = in_object (step_fields_mistake (codes "actor" ∷ codes "do" ∷ codes "times" ∷ [])) d

-- Items

-- `until`, where it stands, or else `times`
abbrev pub repeat_mistake : Option Data → Data → List ℕ
repeat_mistake None d = wanted_at (codes "times") (whole_number 1 100000) d
repeat_mistake (Some v) d = codes ".until: true is wanted, and no `times` beside it"

-- after the event's name
abbrev pub planned_mistake : Kind → Data → List ℕ
planned_mistake kind d =
    if is_err (event_of kind d) then fields_mistake (fields_of kind) d
    else if is_err (repeat_of d) then repeat_mistake (get (codes "until") d) d
    else keys_mistake (codes "do" ∷ codes "times" ∷ codes "until" ∷ fields_of kind) d

-- an item of a worker
abbrev pub item_mistake : Data → List ℕ
item_mistake d = in_object (by_kind event_wanted planned_mistake (kind_at (codes "do") d)) d

-- Ops

-- an op has a name
abbrev pub op_wanted : List ℕ
op_wanted = codes ": `mask`, `action`, `pause`, `clone`, `exec`, `exit` or `exit_group` is wanted"

-- after the op's name
abbrev pub op_fields_mistake : Kind → Data → List ℕ
op_fields_mistake kind d =
    if is_err (event_of kind d) then fields_mistake (fields_of kind) d
    else keys_mistake (codes "do" ∷ fields_of kind) d

-- an op of a machine
abbrev pub op_mistake : Data → List ℕ
op_mistake d = in_object (by_kind op_wanted op_fields_mistake (op_kind_at (codes "do") d)) d
