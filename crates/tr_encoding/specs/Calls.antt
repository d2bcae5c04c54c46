-- The JSON objects that calls are written as.
use Rattle.std.specs.Prelude.{◌≡◌, ℕ, ◌≤◌, List, [], ◌∷◌, Ok, codes, ⊤}
use Rattle.serde_json.specs.Data.{Data, Members, boolean, no_members, number, object, put, string}
use Rattle.serde_json.specs.Find.{of_integer}
use Rattle.tr_group.specs.declared.stops.Action.{Action}
use Rattle.tr_group.specs.declared.stops.Action.TheVariants.{Catch, Default, Ignore}
use Rattle.tr_wait.specs.declared.waits.Which.{Which}
use Rattle.tr_wait.specs.declared.waits.Which.TheVariants.{Any, One}
use Rattle.tr_model.specs.declared.events.Event.{Event}
use Rattle.tr_model.specs.declared.events.Event.TheVariants as event
use Rattle.tr_model.specs.Runs.{Call}
use Rattle.tr_reading.specs.Events.{which_of}
use Rattle.tr_reading.specs.Kinds.{event_name}
use Rattle.tr_reading.specs.Steps.{step_of}
use Rattle.tr_reading.specs.declared.steps.Step.{Step}
use Rattle.tr_encoding.specs.Sets.{array_data, number_data, number_list, option_names, signals_of, text_list}

-- a key, and what stands there
abbrev pub Field : Type 0
Field = List ℕ × Data

-- each put in its turn
abbrev pub with_fields : List Field → Members → Members
with_fields [] ms = ms
with_fields (f ∷ fs) ms = with_fields fs (put f.0 f.1 ms)

-- an object of these
abbrev pub object_data : List Field → Data
object_data fs = object (with_fields fs no_members)

-- a wait for any asks for id 0
abbrev pub id_of : Which → ℕ
id_of Any = 0
id_of (One n) = n

-- the name of an action
abbrev pub action_name : Action → List ℕ
action_name Default = codes "default"
action_name Ignore = codes "ignore"
action_name Catch = codes "catch"

-- fields that several events have
abbrev pub tid_field : ℕ → Field
tid_field id = (codes "tid", number_data id)

abbrev pub tgid_field : ℕ → Field
tgid_field id = (codes "tgid", number_data id)

abbrev pub sig_field : ℕ → Field
sig_field sig = (codes "sig", number_data sig)

-- what an event's step has beside its actor and its name
abbrev pub fields : Event → List Field
fields (event.Kill g s) = tgid_field g ∷ sig_field s ∷ []
fields (event.Tgkill g id s) = tgid_field g ∷ tid_field id ∷ sig_field s ∷ []
fields (event.Sigqueue g s v) = tgid_field g ∷ sig_field s ∷ (codes "value", number (of_integer v)) ∷ []
fields (event.Mask id set) = tid_field id ∷ (codes "set", array_data (number_list (signals_of set))) ∷ []
fields (event.SetAction id s how) = tid_field id ∷ sig_field s ∷ (codes "how", string (action_name how)) ∷ []
fields (event.Pause id) = tid_field id ∷ []
fields (event.Take id) = tid_field id ∷ []
fields (event.TakeAny g) = tgid_field g ∷ []
fields (event.Halt id) = tid_field id ∷ []
fields (event.Trap id) = tid_field id ∷ []
fields (event.Die id) = tid_field id ∷ []
fields (event.CloneThread id) = tid_field id ∷ []
fields (event.Exec id) = tid_field id ∷ []
fields (event.Finish id) = tid_field id ∷ []
fields (event.Exit id code) = tid_field id ∷ (codes "code", number_data code) ∷ []
fields (event.ExitGroup id code) = tid_field id ∷ (codes "code", number_data code) ∷ []
fields (event.Attach id) = tid_field id ∷ []
fields (event.Seize id o) = tid_field id ∷ (codes "options", array_data (text_list (option_names o))) ∷ []
fields (event.Interrupt id) = tid_field id ∷ []
fields (event.Cont id s) = tid_field id ∷ sig_field s ∷ []
fields (event.Listen id) = tid_field id ∷ []
fields (event.Detach id s) = tid_field id ∷ sig_field s ∷ []
fields (event.SetOptions id o) = tid_field id ∷ (codes "options", array_data (text_list (option_names o))) ∷ []
fields (event.EventMessage id) = tid_field id ∷ []
fields (event.SignalInfo id) = tid_field id ∷ []
fields event.TracerExit = []
fields (event.Wait which) = tid_field (id_of which) ∷ []
fields (event.StarterWait which flags) = tgid_field (id_of which) ∷ (codes "untraced", boolean flags.untraced) ∷ (codes "continued", boolean flags.continued) ∷ []

-- the object of a call
abbrev pub call_data : Call → Data
call_data c = object_data ((codes "actor", number_data c.actor) ∷ (codes "do", string (event_name c.event)) ∷ fields c.event)

-- a step that makes the call once
abbrev pub step_of_call : Call → Step
step_of_call c = record { actor = c.actor; event = c.event; times = 1 }

-- a wait doesn't ask for the id 0 itself
abbrev pub AsksFor : Which → Type 0
AsksFor which = which_of (id_of which) ≡ which

-- each wait of it can be written
abbrev pub HasAsked : Event → Type 0
HasAsked (event.Wait which) = AsksFor which
HasAsked (event.StarterWait which flags) = AsksFor which
HasAsked e = ⊤

-- the actor isn't 0, nor what a wait asks for
abbrev pub CanBeRead : Call → Type 0
CanBeRead c = (1 ≤ c.actor) × HasAsked c.event

-- it is read as the step that makes it once
abbrev pub IsReadBack : Call → Type 0
IsReadBack c = CanBeRead c → step_of (call_data c) ≡ Ok (step_of_call c)
