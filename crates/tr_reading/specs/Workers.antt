-- What a JSON value means as a worker: its script of items, or its machine.
use Rattle.std.specs.Prelude.{ℕ, ◌-◌, ◌^◌, List, [], ◌∷◌, Bool, true, false, ◌&&◌, nat_le, if◌then◌else◌, Option, Some, None, Result, Ok, Err, codes, length, sum_by}
use Rattle.serde_json.specs.Data.{Data}
use Rattle.serde_json.specs.Find.{as_array, as_bool, get}
use Rattle.tr_model.specs.declared.events.Event.{Event}
use Rattle.tr_workers.specs.declared.scripts.Item.{Item}
use Rattle.tr_workers.specs.declared.scripts.Plan.{Plan}
use Rattle.tr_workers.specs.declared.scripts.Plan.TheVariants.{Items, Machine}
use Rattle.tr_workers.specs.declared.scripts.Repeat.{Repeat}
use Rattle.tr_workers.specs.declared.scripts.Repeat.TheVariants.{Times, Until}
use Rattle.tr_workers.specs.declared.scripts.Script.{Script}
use Rattle.tr_workers.specs.declared.scripts.Served.{Served}
use Rattle.tr_reading.specs.declared.faults.ScenarioFault.{ScenarioFault}
use Rattle.tr_reading.specs.declared.faults.ScenarioFault.TheVariants.{BadField}
use Rattle.tr_reading.specs.declared.kinds.Kind.{Kind}
use Rattle.tr_reading.specs.declared.kinds.Kind.TheVariants as kind
use Rattle.tr_reading.specs.Events.{event_of}
use Rattle.tr_reading.specs.Fields.{◌>>=◌, each, field_at, id_at, list_at, list_of, needed, no_key_but, number_at}
use Rattle.tr_reading.specs.Kinds.{fields_of, kind_at}
use Rattle.tr_reading.specs.Steps.{count_of, times_in}

-- Items

-- it may only be true
abbrev pub until_from : Option Bool → Result Repeat ScenarioFault
until_from (Some true) = Ok Until
until_from _ = Err BadField

-- by what stands at `times` and at `until`, of which there is at most one
abbrev pub repeat_in : Option Data → Option Data → Result Repeat ScenarioFault
repeat_in times None = do
  n ← times_in times
  Ok (Times n)
repeat_in None (Some v) = until_from (as_bool v)
repeat_in (Some times) (Some v) = Err BadField

-- how a call is repeated
unfoldable pub repeat_of : Data → Result Repeat ScenarioFault
repeat_of d = repeat_in (get (codes "times") d) (get (codes "until") d)

-- an item: its event, how its call is repeated, and no other key
unfoldable pub item_of : Data → Result Item ScenarioFault
item_of d = do
  kind ← kind_at (codes "do") d
  event ← event_of kind d
  repeat ← repeat_of d
  _ ← no_key_but (codes "do" ∷ codes "times" ∷ codes "until" ∷ fields_of kind) d
  Ok (record { event = event; repeat = repeat })

-- Machines

-- what a thread that a machine serves may do by itself
abbrev pub is_op : Kind → Bool
is_op kind.Mask = true
is_op kind.SetAction = true
is_op kind.Pause = true
is_op kind.CloneThread = true
is_op kind.Exec = true
is_op kind.Exit = true
is_op kind.ExitGroup = true
is_op _ = false

-- the kind that `do` names, where it is an op's
unfoldable pub op_kind_at : List ℕ → Data → Result Kind ScenarioFault
op_kind_at key d = do
  kind ← kind_at key d
  if is_op kind then Ok kind else Err BadField

-- an op: its event, and no other key
unfoldable pub op_of : Data → Result Event ScenarioFault
op_of d = do
  kind ← op_kind_at (codes "do") d
  event ← event_of kind d
  _ ← no_key_but (codes "do" ∷ fields_of kind) d
  Ok event

-- a thread that a machine serves: its id, its ops, and no other key
unfoldable pub served_of : Data → Result Served ScenarioFault
served_of d = do
  tid ← id_at (codes "tid") d
  ops ← list_at (codes "ops") op_of d
  _ ← no_key_but (codes "tid" ∷ codes "ops" ∷ []) d
  Ok (record { tid = tid; ops = ops })

-- Workers

-- by what stands at `items` and at `machine`, of which there is one
abbrev pub plan_in : Option Data → Option Data → Result Plan ScenarioFault
plan_in (Some v) None = do
  items ← list_of item_of v
  Ok (Items items)
plan_in None (Some v) = do
  threads ← list_of served_of v
  Ok (Machine threads)
plan_in None None = Err BadField
plan_in (Some v) (Some w) = Err BadField

-- where a worker takes its calls from
unfoldable pub plan_of : Data → Result Plan ScenarioFault
plan_of d = plan_in (get (codes "items") d) (get (codes "machine") d)

-- a worker: its actor, its calls, and no other key
unfoldable pub worker_of : Data → Result Script ScenarioFault
worker_of d = do
  actor ← number_at (codes "actor") 1 (2 ^ 32 - 1) d
  plan ← plan_of d
  _ ← no_key_but (codes "actor" ∷ codes "items" ∷ codes "machine" ∷ []) d
  Ok (record { actor = actor; plan = plan })

-- too few workers or too many are met before the first of them
unfoldable pub workers_at : List ℕ → Data → Result (List Script) ScenarioFault
workers_at key d = do
  v ← field_at key d
  ds ← needed (as_array v)
  if nat_le 1 (count_of ds) && nat_le (count_of ds) 64 then each worker_of ds else Err BadField

-- How much there is

-- items, or ops of all its threads
abbrev pub members_of_plan : Plan → ℕ
members_of_plan (Items items) = length items
members_of_plan (Machine threads) = sum_by (λ s. length s.ops) threads

-- the items and ops of all workers
abbrev pub members_of : List Script → ℕ
members_of scripts = sum_by (λ s. members_of_plan s.plan) scripts

-- an item without `times` counts once
abbrev pub times_of_repeat : Repeat → ℕ
times_of_repeat (Times n) = n
times_of_repeat Until = 1

-- ops don't count
abbrev pub calls_of_plan : Plan → ℕ
calls_of_plan (Items items) = sum_by (λ i. times_of_repeat i.repeat) items
calls_of_plan (Machine threads) = 0

-- the sum of `times` over all workers
abbrev pub calls_of : List Script → ℕ
calls_of scripts = sum_by (λ s. calls_of_plan s.plan) scripts
