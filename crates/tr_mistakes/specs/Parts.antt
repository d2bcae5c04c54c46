-- What the words of a mistake are made of: where it stands, outermost part first, and what is wanted there.
use Rattle.std.specs.Prelude.{ℕ, ◌+◌, ◌==◌, nat_le, List, [], ◌∷◌, ◌++◌, Bool, ◌&&◌, Option, Some, None, Result, codes, decimal, if◌then◌else◌, is_err, is_some, length, not}
use Rattle.std.specs.List.{list_all}
use Rattle.serde_json.specs.Data.{Data, Items, no_items, item, Members, no_members, member}
use Rattle.serde_json.specs.Find.{as_array, as_object, get}
use Rattle.tr_status.specs.Texts.{texts}
use Rattle.tr_reading.specs.declared.faults.ScenarioFault.{ScenarioFault}
use Rattle.tr_reading.specs.Fields.{is_one_of}

-- Places

-- a key
abbrev pub key_part : List ℕ → List ℕ
key_part key = codes "." ++ key

-- a place in a list, from 0
abbrev pub index_part : ℕ → List ℕ
index_part i = texts (codes "[" ∷ decimal i ∷ codes "]" ∷ [])

-- What is wanted

-- a number in a range
abbrev pub whole_number : ℕ → ℕ → List ℕ
whole_number low high = texts (codes ": a whole number from " ∷ decimal low ∷ codes " to " ∷ decimal high ∷ codes " is wanted" ∷ [])

-- what is wanted where something stands at the key
abbrev pub wanted_in : List ℕ → Option Data → List ℕ
wanted_in wanted None = codes ": is missing"
wanted_in wanted (Some v) = wanted

-- the key, and what is wanted there
abbrev pub wanted_at : List ℕ → List ℕ → Data → List ℕ
wanted_at key wanted d = key_part key ++ wanted_in wanted (get key d)

-- Lists

-- the first member of which the reading is refused
abbrev pub refused_member : {A : Type 0} → (Data → Result A ScenarioFault) → (Data → List ℕ) → ℕ → Items → List ℕ
refused_member read mistake i no_items = []
refused_member read mistake i (item d ds) = if is_err (read d) then index_part i ++ mistake d else refused_member read mistake (i + 1) ds

-- that of a list
abbrev pub listed_mistake : {A : Type 0} → (Data → Result A ScenarioFault) → (Data → List ℕ) → Option Items → List ℕ
listed_mistake read mistake None = codes ": a list is wanted"
listed_mistake read mistake (Some ds) = refused_member read mistake 0 ds

-- that of the list at a key
abbrev pub list_mistake_in : {A : Type 0} → (Data → Result A ScenarioFault) → (Data → List ℕ) → Option Data → List ℕ
list_mistake_in read mistake None = codes ": is missing"
list_mistake_in read mistake (Some v) = listed_mistake read mistake (as_array v)

-- after the key
abbrev pub list_mistake : {A : Type 0} → List ℕ → (Data → Result A ScenarioFault) → (Data → List ℕ) → Data → List ℕ
list_mistake key read mistake d = key_part key ++ list_mistake_in read mistake (get key d)

-- Objects

-- printable ASCII but the blank and the quote
abbrev pub is_told_byte : ℕ → Bool
is_told_byte b = nat_le 0x21 b && (nat_le b 0x7e && not (b == 96))

-- a key is told where it is short, and of such bytes
abbrev pub is_told : List ℕ → Bool
is_told key = nat_le (length key) 32 && list_all is_told_byte key

-- a key that has no meaning here, by its name
abbrev pub named_key : List ℕ → List ℕ
named_key key = texts (codes ": the key `" ∷ key ∷ codes "` isn't known here" ∷ [])

-- and by none, where it isn't told
abbrev pub unknown_key : List ℕ → List ℕ
unknown_key key = if is_told key then named_key key else codes ": a key isn't known here"

-- the first such key, in alphabetical order
abbrev pub unknown_among : List (List ℕ) → Members → List ℕ
unknown_among names no_members = []
unknown_among names (member k d ms) = if is_one_of names k then unknown_among names ms else unknown_key k

-- only an object has keys
abbrev pub keys_mistake_of : List (List ℕ) → Option Members → List ℕ
keys_mistake_of names None = []
keys_mistake_of names (Some ms) = unknown_among names ms

-- that of an object all of whose fields are read
abbrev pub keys_mistake : List (List ℕ) → Data → List ℕ
keys_mistake names d = keys_mistake_of names (as_object d)

-- that of an object's fields, or that no object stands here
abbrev pub in_object : (Data → List ℕ) → Data → List ℕ
in_object mistake d = if is_some (as_object d) then mistake d else codes ": an object is wanted"
