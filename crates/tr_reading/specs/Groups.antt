-- What a JSON value means as a group, a thread or an action of the start.
use Rattle.std.specs.Prelude.{ℕ, List, [], ◌∷◌, if◌then◌else◌, Result, Ok, Err, codes}
use Rattle.std.specs.Str.{bytes_eq}
use Rattle.serde_json.specs.Data.{Data}
use Rattle.tr_sigset.specs.declared.sets.SigSet.{SigSet}
use Rattle.tr_group.specs.declared.stops.Action.{Action}
use Rattle.tr_group.specs.declared.stops.Action.TheVariants.{Catch, Default, Ignore}
use Rattle.tr_starts.specs.declared.starts.GroupStart.{GroupStart}
use Rattle.tr_reading.specs.declared.faults.ScenarioFault.{ScenarioFault}
use Rattle.tr_reading.specs.declared.faults.ScenarioFault.TheVariants.{BadField}
use Rattle.tr_reading.specs.Fields.{◌>>=◌, id_at, list_at, no_key_but, set_at, signal_at, text_at}

-- the action of a name
abbrev pub how_from : List ℕ → Result Action ScenarioFault
how_from t = if bytes_eq t (codes "default") then Ok Default else (if bytes_eq t (codes "ignore") then Ok Ignore else (if bytes_eq t (codes "catch") then Ok Catch else Err BadField))

-- an action at a key
unfoldable pub how_at : List ℕ → Data → Result Action ScenarioFault
how_at key d = do
  t ← text_at key d
  how_from t

-- a thread of the start: its id, and the signals that it blocks
unfoldable pub thread_of : Data → Result (ℕ × SigSet) ScenarioFault
thread_of d = do
  tid ← id_at (codes "tid") d
  blocked ← set_at (codes "blocked") d
  _ ← no_key_but (codes "tid" ∷ codes "blocked" ∷ []) d
  Ok (tid, blocked)

-- an action of the start: its signal, and what it is set to
unfoldable pub action_of : Data → Result (ℕ × Action) ScenarioFault
action_of d = do
  sig ← signal_at (codes "sig") d
  how ← how_at (codes "how") d
  _ ← no_key_but (codes "sig" ∷ codes "how" ∷ []) d
  Ok (sig, how)

-- a group of the start, its fields looked at in their order
unfoldable pub group_of : Data → Result GroupStart ScenarioFault
group_of d = do
  tgid ← id_at (codes "tgid") d
  name ← text_at (codes "name") d
  threads ← list_at (codes "threads") thread_of d
  actions ← list_at (codes "actions") action_of d
  _ ← no_key_but (codes "tgid" ∷ codes "name" ∷ codes "threads" ∷ codes "actions" ∷ []) d
  Ok (record { tgid = tgid; name = name; actions = actions; threads = threads })
