-- The first mistake of a worker.
use Rattle.std.specs.Prelude.{ℕ, ◌-◌, ◌^◌, List, [], ◌∷◌, ◌++◌, Option, Some, None, codes, if◌then◌else◌, is_err}
use Rattle.serde_json.specs.Data.{Data}
use Rattle.serde_json.specs.Find.{as_array, get}
use Rattle.tr_reading.specs.Fields.{id_at, list_at, number_at}
use Rattle.tr_reading.specs.Workers.{item_of, op_of, plan_of, served_of}
use Rattle.tr_mistakes.specs.declared.wanted.Wanted.TheVariants.{Id}
use Rattle.tr_mistakes.specs.Events.{field_mistake, item_mistake, op_mistake}
use Rattle.tr_mistakes.specs.Parts.{in_object, key_part, keys_mistake, list_mistake, listed_mistake, wanted_at, whole_number}

-- a thread that a machine serves: its id, and its ops
abbrev pub served_fields_mistake : Data → List ℕ
served_fields_mistake d =
    if is_err (id_at (codes "tid") d) then field_mistake Id (codes "tid") d
    else if is_err (list_at (codes "ops") op_of d) then list_mistake (codes "ops") op_of op_mistake d
    else keys_mistake (codes "tid" ∷ codes "ops" ∷ []) d

-- of such a thread
abbrev pub served_mistake : Data → List ℕ
served_mistake d = in_object served_fields_mistake d

-- by what stands at `items` and at `machine`, of which there is to be one
abbrev pub plan_mistake : Option Data → Option Data → List ℕ
plan_mistake (Some v) None = key_part (codes "items") ++ listed_mistake item_of item_mistake (as_array v)
plan_mistake None (Some v) = key_part (codes "machine") ++ listed_mistake served_of served_mistake (as_array v)
plan_mistake None None = codes ": `items` or `machine` is wanted"
plan_mistake (Some v) (Some w) = codes ": `items` or `machine` is wanted, and not both"

-- a worker: its actor, and where its calls come from
abbrev pub worker_fields_mistake : Data → List ℕ
worker_fields_mistake d =
    if is_err (number_at (codes "actor") 1 (2 ^ 32 - 1) d) then wanted_at (codes "actor") (whole_number 1 (2 ^ 32 - 1)) d
    else if is_err (plan_of d) then plan_mistake (get (codes "items") d) (get (codes "machine") d)
    else keys_mistake (codes "actor" ∷ codes "items" ∷ codes "machine" ∷ []) d

-- of a worker
abbrev pub worker_mistake : Data → List ℕ
worker_mistake d = in_object worker_fields_mistake d
