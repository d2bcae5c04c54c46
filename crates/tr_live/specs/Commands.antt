-- What a line of a dialogue asks for.
use Rattle.std.specs.Prelude.{ℕ, List, [], ◌∷◌, Option, Some, None, Result, Ok, Err, codes, if◌then◌else◌, length, nat_le}
use Rattle.std.specs.Str.{bytes_eq}
use Rattle.serde_json.specs.Data.{Data}
use Rattle.serde_json.specs.Find.{as_str, get}
use Rattle.tr_starts.specs.declared.starts.Start.{Start}
use Rattle.tr_starts.specs.Starts.{is_good}
use Rattle.tr_reading.specs.declared.faults.ScenarioFault.{ScenarioFault}
use Rattle.tr_reading.specs.declared.faults.ScenarioFault.TheVariants.{BadField, BadStart, Repeated, TooLarge}
use Rattle.tr_reading.specs.Fields.{◌>>=◌, id_at, needed, no_key_but, number_at}
use Rattle.tr_reading.specs.Scenarios.{json_of, repeats_in_start, start_of}
use Rattle.tr_reading.specs.Steps.{step_of}
use Rattle.tr_live.specs.declared.commands.Command.{Command}
use Rattle.tr_live.specs.declared.commands.Command.TheVariants.{Make, ShowStatus, ShowTable, ShowTotals}

-- The first line

-- a start has to be one that a kernel can have
unfoldable pub whole_start : Start → Result Start ScenarioFault
whole_start s = if repeats_in_start s then Err Repeated else (if is_good s then Ok s else Err BadStart)

-- a scenario without steps
unfoldable pub opening_of : Data → Result Start ScenarioFault
opening_of d = do
  version ← number_at (codes "version") 1 1 d
  start ← start_of d
  _ ← no_key_but (codes "version" ∷ codes "limit" ∷ codes "entries" ∷ codes "groups" ∷ []) d
  whole_start start

-- The others

-- the status of a thread, by its id
unfoldable pub status_command : Data → Result Command ScenarioFault
status_command d = do
  tid ← id_at (codes "tid") d
  _ ← no_key_but (codes "show" ∷ codes "tid" ∷ []) d
  Ok (ShowStatus tid)

-- a command that has no further field
unfoldable pub plain_command : Command → Data → Result Command ScenarioFault
plain_command c d = do
  _ ← no_key_but (codes "show" ∷ []) d
  Ok c

-- what is to be shown, by its name
abbrev pub shown_by : List ℕ → Data → Result Command ScenarioFault
shown_by name d =
    if bytes_eq name (codes "status") then status_command d
    else (if bytes_eq name (codes "totals") then plain_command ShowTotals d
    else (if bytes_eq name (codes "table") then plain_command ShowTable d else Err BadField))

-- an object with the key `show` asks for a text, any other is a step
abbrev pub command_in : Option Data → Data → Result Command ScenarioFault
command_in None d = do
  step ← step_of d
  Ok (Make step)
command_in (Some v) d = do
  name ← needed (as_str v)
  shown_by name d

-- what an object asks for
unfoldable pub command_of : Data → Result Command ScenarioFault
command_of d = command_in (get (codes "show") d) d

-- Lines

-- the most bytes of a line
abbrev pub longest : ℕ
longest = 65536

-- what f reads of a line of at most 65,536 bytes, or its first fault
unfoldable pub line_read : {A : Type 0} → (Data → Result A ScenarioFault) → List ℕ → Result A ScenarioFault
line_read f line = if nat_le (length line) longest then (json_of line >>= f) else Err TooLarge
