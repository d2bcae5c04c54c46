-- What an entry chose where the model leaves it free.
use Rattle.std.specs.Prelude.{◌≡◌, ℕ, Option, Some, None, unwrap_or}
use Rattle.tr_model.specs.declared.choices.Kind.{Kind}
use Rattle.tr_model.specs.declared.choices.Kind.TheVariants as kind

-- the thread that a take by any thread of a group fell to, the number of the instance that was taken, the number of the
-- report that a wait consumed, the id that a clone gave
pub record Choice : Type 0 where
  pub thread : Option ℕ
  pub instance : Option ℕ
  pub report : Option ℕ
  pub new_id : Option ℕ

-- an event that leaves nothing open
abbrev pub no_choice : Choice
no_choice = record { thread = None; instance = None; report = None; new_id = None }

-- a take
abbrev pub takes_instance : ℕ → Choice
takes_instance n = record { thread = None; instance = Some n; report = None; new_id = None }

-- a take by any thread
abbrev pub takes_by : ℕ → ℕ → Choice
takes_by id n = record { thread = Some id; instance = Some n; report = None; new_id = None }

-- a wait
abbrev pub gives_report : ℕ → Choice
gives_report r = record { thread = None; instance = None; report = Some r; new_id = None }

-- a clone
abbrev pub gives_id : ℕ → Choice
gives_id id = record { thread = None; instance = None; report = None; new_id = Some id }

-- As it is kept: a kind, a number and an id

-- the choice of a kind, by its number and its id
abbrev pub chosen_by : Kind → ℕ → ℕ → Choice
chosen_by kind.Nothing n id = no_choice
chosen_by kind.Instance n id = takes_instance n
chosen_by kind.ThreadAndInstance n id = takes_by id n
chosen_by kind.Report n id = gives_report n
chosen_by kind.NewId n id = gives_id id

-- what the kind doesn't use is 0
abbrev pub IsPacked : Kind → ℕ → ℕ → Type 0
IsPacked kind.Nothing n id = (n ≡ 0) × (id ≡ 0)
IsPacked kind.Instance n id = id ≡ 0
IsPacked kind.ThreadAndInstance n id = Unit {0}
IsPacked kind.Report n id = id ≡ 0
IsPacked kind.NewId n id = n ≡ 0

-- the kind of a choice
abbrev pub kind_by : Option ℕ → Option ℕ → Option ℕ → Option ℕ → Kind
kind_by (Some id) n r new = kind.ThreadAndInstance
kind_by None (Some n) r new = kind.Instance
kind_by None None (Some r) new = kind.Report
kind_by None None None (Some id) = kind.NewId
kind_by None None None None = kind.Nothing

abbrev pub packed_kind : Choice → Kind
packed_kind c = kind_by c.thread c.instance c.report c.new_id

-- the first of two numbers that is there, else 0
abbrev pub either : Option ℕ → Option ℕ → ℕ
either (Some n) o = n
either None o = unwrap_or o 0

abbrev pub packed_number : Choice → ℕ
packed_number c = either c.instance c.report

abbrev pub packed_id : Choice → ℕ
packed_id c = either c.thread c.new_id
