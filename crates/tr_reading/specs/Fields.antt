-- What a JSON value means as a number, a text, a set or a list, or the first fault in it.
use Rattle.std.specs.Prelude.{◌≡◌, ◌⊎◌, ℕ, ◌-◌, ◌^◌, ℤ, pos, negsuc, int_le, List, [], ◌∷◌, Bool, true, ◌&&◌, nat_le, if◌then◌else◌, Option, Some, None, option_and_then, Result, Ok, Err, bit_or, ⊤}
use Rattle.std.specs.List.{list_any}
use Rattle.std.specs.Str.{bytes_eq}
use Rattle.serde_json.specs.Data.{Num, unsigned, negative, float, Data, Items, no_items, item, Members, no_members, member}
use Rattle.serde_json.specs.Find.{get, as_array, as_bool, as_integer, as_number, as_object, as_str, as_u64}
use Rattle.tr_sigset.specs.declared.sets.SigSet.{SigSet}
use Rattle.tr_sigset.specs.Sets.{of_word}
use Rattle.tr_reading.specs.declared.faults.ScenarioFault.{ScenarioFault}
use Rattle.tr_reading.specs.declared.faults.ScenarioFault.TheVariants.{BadField, BadSignal, NoMemory}

-- Readings in a row, up to the first fault

infixl 10 ◌>>=◌
-- the first fault is the fault of both
abbrev pub ◌>>=◌ : {A B : Type 0} → Result A ScenarioFault → (A → Result B ScenarioFault) → Result B ScenarioFault
(Ok x) >>= f = f x
(Err e) >>= f = Err e

-- what was answered, seen by view, is what reading gives; want of memory may come in its place
abbrev pub Gives : {X Y : Type 0} → (X → Y) → Result X ScenarioFault → Result Y ScenarioFault → Type 0
Gives view (Ok x) read = read ≡ Ok (view x)
Gives view (Err e) read = (e ≡ NoMemory) ⊎ (read ≡ Err e)

-- what is there, or a bad field
abbrev pub needed : {A : Type 0} → Option A → Result A ScenarioFault
needed None = Err BadField
needed (Some x) = Ok x

-- Fields

-- a key that has to be there
abbrev pub field_at : List ℕ → Data → Result Data ScenarioFault
field_at key d = needed (get key d)

-- a whole number in a range
abbrev pub number_in : ℕ → ℕ → Data → Result ℕ ScenarioFault
number_in low high d = do
  n ← needed (option_and_then as_u64 (as_number d))
  if nat_le low n && nat_le n high then Ok n else Err BadField

-- such a number at a key
unfoldable pub number_at : List ℕ → ℕ → ℕ → Data → Result ℕ ScenarioFault
number_at key low high d = do
  v ← field_at key d
  number_in low high v

-- ids, limits and codes are any numbers of 32 bits
abbrev pub id_at : List ℕ → Data → Result ℕ ScenarioFault
id_at key d = number_at key 0 (2 ^ 32 - 1) d

-- the value of a signal, 32 bits with a sign
unfoldable pub value_at : List ℕ → Data → Result ℤ ScenarioFault
value_at key d = do
  v ← field_at key d
  n ← needed (option_and_then as_integer (as_number v))
  if int_le (negsuc 2147483647) n && int_le n (pos 2147483647) then Ok n else Err BadField

-- true or false
unfoldable pub flag_at : List ℕ → Data → Result Bool ScenarioFault
flag_at key d = do
  v ← field_at key d
  needed (as_bool v)

-- a text
unfoldable pub text_at : List ℕ → Data → Result (List ℕ) ScenarioFault
text_at key d = do
  v ← field_at key d
  needed (as_str v)

-- Lists

-- each item in order
abbrev pub each : {A : Type 0} → (Data → Result A ScenarioFault) → Items → Result (List A) ScenarioFault
each f no_items = Ok []
each f (item d ds) = do
  x ← f d
  xs ← each f ds
  Ok (x ∷ xs)

-- a list, each of its members read so
unfoldable pub list_of : {A : Type 0} → (Data → Result A ScenarioFault) → Data → Result (List A) ScenarioFault
list_of f d = do
  ds ← needed (as_array d)
  each f ds

-- such a list at a key
abbrev pub list_at : {A : Type 0} → List ℕ → (Data → Result A ScenarioFault) → Data → Result (List A) ScenarioFault
list_at key f d = do
  v ← field_at key d
  list_of f v

-- Signals

-- a whole number that is no signal is BadSignal
abbrev pub signal_from : Num → Result ℕ ScenarioFault
signal_from (unsigned n) = if nat_le 1 n && nat_le n 64 then Ok n else Err BadSignal
signal_from (negative z) = Err BadSignal
signal_from (float x) = Err BadField

-- what is a whole number and no signal is told from what is no whole number
abbrev pub signal_of : Data → Result ℕ ScenarioFault
signal_of d = do
  n ← needed (as_number d)
  signal_from n

-- a signal, 1 to 64
unfoldable pub signal_at : List ℕ → Data → Result ℕ ScenarioFault
signal_at key d = do
  v ← field_at key d
  signal_of v

-- signal n is bit n - 1 of the word
abbrev pub with_bits : ℕ → List ℕ → ℕ
with_bits word [] = word
with_bits word (n ∷ ns) = with_bits (bit_or word (2 ^ (n - 1))) ns

-- the set of these signals
abbrev pub set_of : List ℕ → SigSet
set_of ns = of_word (with_bits 0 ns)

-- a list of signals, as a set
unfoldable pub set_at : List ℕ → Data → Result SigSet ScenarioFault
set_at key d = do
  ns ← list_at key signal_of d
  Ok (set_of ns)

-- Unknown keys

-- the key is one of these
abbrev pub is_one_of : List (List ℕ) → List ℕ → Bool
is_one_of names key = list_any (λ n. bytes_eq n key) names

-- each key of the object is one of these
abbrev pub keys_among : List (List ℕ) → Members → Bool
keys_among names no_members = true
keys_among names (member k d ms) = is_one_of names k && keys_among names ms

-- an object with another key is BadField
abbrev pub no_key_but : List (List ℕ) → Data → Result ⊤ ScenarioFault
no_key_but names d = do
  ms ← needed (as_object d)
  if keys_among names ms then Ok tt else Err BadField
