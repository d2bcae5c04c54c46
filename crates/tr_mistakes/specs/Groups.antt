-- The first mistake of a group, and of where a kernel starts from.
use Rattle.std.specs.Prelude.{ℕ, List, [], ◌∷◌, codes, if◌then◌else◌, is_err}
use Rattle.serde_json.specs.Data.{Data}
use Rattle.tr_reading.specs.Fields.{id_at, list_at, set_at, signal_at, text_at}
use Rattle.tr_reading.specs.Groups.{action_of, group_of, how_at, thread_of}
use Rattle.tr_mistakes.specs.declared.wanted.Wanted.TheVariants.{How, Id, Signals}
use Rattle.tr_mistakes.specs.Events.{field_mistake}
use Rattle.tr_mistakes.specs.Parts.{in_object, keys_mistake, list_mistake, wanted_at}

-- a thread: its id, and the signals that it blocks
abbrev pub thread_fields_mistake : Data → List ℕ
thread_fields_mistake d =
    if is_err (id_at (codes "tid") d) then field_mistake Id (codes "tid") d
    else if is_err (set_at (codes "blocked") d) then field_mistake Signals (codes "blocked") d
    else keys_mistake (codes "tid" ∷ codes "blocked" ∷ []) d

-- of a thread
abbrev pub thread_mistake : Data → List ℕ
thread_mistake d = in_object thread_fields_mistake d

-- an action: its signal, and what is done
abbrev pub action_fields_mistake : Data → List ℕ
action_fields_mistake d =
    if is_err (signal_at (codes "sig") d) then wanted_at (codes "sig") (codes ": a signal, 1 to 64, is wanted") d
    else if is_err (how_at (codes "how") d) then field_mistake How (codes "how") d
    else keys_mistake (codes "sig" ∷ codes "how" ∷ []) d

-- of an action
abbrev pub action_mistake : Data → List ℕ
action_mistake d = in_object action_fields_mistake d

-- the threads and the actions of a group, and its keys
abbrev pub group_lists_mistake : Data → List ℕ
group_lists_mistake d =
    if is_err (list_at (codes "threads") thread_of d) then list_mistake (codes "threads") thread_of thread_mistake d
    else if is_err (list_at (codes "actions") action_of d) then list_mistake (codes "actions") action_of action_mistake d
    else keys_mistake (codes "tgid" ∷ codes "name" ∷ codes "threads" ∷ codes "actions" ∷ []) d

-- a group: its id, its name, and its lists
abbrev pub group_fields_mistake : Data → List ℕ
group_fields_mistake d =
    if is_err (id_at (codes "tgid") d) then field_mistake Id (codes "tgid") d
    else if is_err (text_at (codes "name") d) then wanted_at (codes "name") (codes ": a text is wanted") d
    else group_lists_mistake d

-- of a group
abbrev pub group_mistake : Data → List ℕ
group_mistake d = in_object group_fields_mistake d

-- where a kernel starts from: the limit, how many entries, and the groups
abbrev pub start_fields_mistake : Data → List ℕ
start_fields_mistake d =
    if is_err (id_at (codes "limit") d) then field_mistake Id (codes "limit") d
    else if is_err (id_at (codes "entries") d) then field_mistake Id (codes "entries") d
    else list_mistake (codes "groups") group_of group_mistake d
