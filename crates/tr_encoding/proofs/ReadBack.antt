-- The object of a call is read as the step that makes it once.
use Rattle.std.proofs.Common.{◌≡◌, ◌<◌, ◌≤◌, ◌-◌, ◌^◌, ℕ, ℤ, pos, negsuc, List, [], ◌∷◌, ◌++◌, Bool, true, false, ◌&&◌, if◌then◌else◌, codes, Ok, Err, Some, None, map, All, length, refl, rules, arith}
use Rattle.std.specs.Prelude.{int_le}
use Rattle.std.proofs.lemmas.Bool.{le-leb}
use Rattle.std.proofs.lemmas.List.Elements.{All-head, All-tail}
use Rattle.serde_json.specs.Data.{Data, boolean, number, string}
use Rattle.serde_json.specs.Find.{get, of_integer}
use Rattle.serde_json.specs.View.{items_of}
use Rattle.tr_group.specs.declared.stops.Action.{Action}
use Rattle.tr_group.specs.declared.stops.Action.TheVariants.{Catch, Default, Ignore}
use Rattle.tr_wait.specs.declared.waits.Which.{Which}
use Rattle.tr_model.specs.declared.events.Event.{Event}
use Rattle.tr_model.specs.declared.events.Event.TheVariants as event
use Rattle.tr_model.specs.Runs.{Call}
use Rattle.tr_reading.specs.declared.faults.ScenarioFault.TheVariants.{BadField}
use Rattle.tr_reading.specs.Events.{event_of, which_of}
use Rattle.tr_reading.specs.Fields.{each, flag_at, id_at, no_key_but, number_at, text_at, value_at}
use Rattle.tr_reading.specs.Groups.{how_at}
use Rattle.tr_reading.specs.Kinds.{fields_of, kind_at, kind_of}
use Rattle.tr_reading.specs.Steps.{step_among, step_of, times_of}
use Rattle.tr_encoding.specs.Calls.{CanBeRead, HasAsked, IsReadBack, action_name, call_data, id_of, step_of_call}
use Rattle.tr_encoding.specs.Private.{IsByte, IsInRange, IsWord}
use Rattle.tr_encoding.specs.Sets.{number_data}
use Rattle.tr_encoding.proofs.Members.{options_read, set_reads}

-- Fields

number_reads : (key : List ℕ) (low high n : ℕ) (d : Data) → get key d ≡ Some (number_data n) → low ≤ n → n ≤ high → number_at key low high d ≡ Ok n
unfolding number_at
number_reads key low high n d at p q = rw (at, le-leb low n p, le-leb n high q)

id_reads : (key : List ℕ) (n : ℕ) (d : Data) → get key d ≡ Some (number_data n) → IsWord n → id_at key d ≡ Ok n
id_reads key n d at below = number_reads key 0 (2 ^ 32 - 1) n d at (omega arith) (omega (arith, below))

byte_reads : (key : List ℕ) (n : ℕ) (d : Data) → get key d ≡ Some (number_data n) → IsByte n → number_at key 0 255 d ≡ Ok n
byte_reads key n d at below = number_reads key 0 255 n d at (omega arith) (omega (arith, below))

whole_in : (low high : Bool) (v : ℤ) → low ≡ true → high ≡ true → (if low && high then Ok v else Err BadField) ≡ Ok v
whole_in true true v p q = refl
whole_in true false v p q = cc
whole_in false high v p q = cc

value_reads : (key : List ℕ) (v : ℤ) (d : Data) → get key d ≡ Some (number (of_integer v)) → int_le (negsuc 2147483647) v ≡ true → int_le v (pos 2147483647) ≡ true → value_at key d ≡ Ok v
unfolding value_at
value_reads key (pos n) d at low high = rw at (whole_in (int_le (negsuc 2147483647) (pos n)) (int_le (pos n) (pos 2147483647)) (pos n) low high)
value_reads key (negsuc n) d at low high = rw at (whole_in (int_le (negsuc 2147483647) (negsuc n)) (int_le (negsuc n) (pos 2147483647)) (negsuc n) low high)

how_reads : (key : List ℕ) (how : Action) (d : Data) → get key d ≡ Some (string (action_name how)) → how_at key d ≡ Ok how
unfolding how_at text_at
how_reads key Default d at = rw at refl
how_reads key Ignore d at = rw at refl
how_reads key Catch d at = rw at refl

flag_reads : (key : List ℕ) (b : Bool) (d : Data) → get key d ≡ Some (boolean b) → flag_at key d ≡ Ok b
unfolding flag_at
flag_reads key b d at = rw at refl

-- Events

abbrev at : ℕ → Event → Data
at a e = call_data (record { actor = a; event = e })

-- what each call has beside its event's fields
record HasFrame (a : ℕ) (e : Event) : Type 0 where
  pub actor : get (codes "actor") (at a e) ≡ Some (number_data a)
  pub kind : kind_at (codes "do") (at a e) ≡ Ok (kind_of e)
  pub times : times_of (at a e) ≡ Ok 1
  pub keys : no_key_but ((codes "actor" ∷ codes "do" ∷ codes "times" ∷ []) ++ fields_of (kind_of e)) (at a e) ≡ Ok tt

frame_of : (a : ℕ) (e : Event) → HasFrame a e
unfolding kind_at text_at times_of
frame_of a (event.Kill g s) = record { actor = refl; kind = refl; times = refl; keys = refl }
frame_of a (event.Tgkill g id s) = record { actor = refl; kind = refl; times = refl; keys = refl }
frame_of a (event.Sigqueue g s v) = record { actor = refl; kind = refl; times = refl; keys = refl }
frame_of a (event.Mask id set) = record { actor = refl; kind = refl; times = refl; keys = refl }
frame_of a (event.SetAction id s how) = record { actor = refl; kind = refl; times = refl; keys = refl }
frame_of a (event.Pause id) = record { actor = refl; kind = refl; times = refl; keys = refl }
frame_of a (event.Take id) = record { actor = refl; kind = refl; times = refl; keys = refl }
frame_of a (event.TakeAny g) = record { actor = refl; kind = refl; times = refl; keys = refl }
frame_of a (event.Halt id) = record { actor = refl; kind = refl; times = refl; keys = refl }
frame_of a (event.Trap id) = record { actor = refl; kind = refl; times = refl; keys = refl }
frame_of a (event.Die id) = record { actor = refl; kind = refl; times = refl; keys = refl }
frame_of a (event.CloneThread id) = record { actor = refl; kind = refl; times = refl; keys = refl }
frame_of a (event.Exec id) = record { actor = refl; kind = refl; times = refl; keys = refl }
frame_of a (event.Finish id) = record { actor = refl; kind = refl; times = refl; keys = refl }
frame_of a (event.Exit id code) = record { actor = refl; kind = refl; times = refl; keys = refl }
frame_of a (event.ExitGroup id code) = record { actor = refl; kind = refl; times = refl; keys = refl }
frame_of a (event.Attach id) = record { actor = refl; kind = refl; times = refl; keys = refl }
frame_of a (event.Seize id o) = record { actor = refl; kind = refl; times = refl; keys = refl }
frame_of a (event.Interrupt id) = record { actor = refl; kind = refl; times = refl; keys = refl }
frame_of a (event.Cont id s) = record { actor = refl; kind = refl; times = refl; keys = refl }
frame_of a (event.Listen id) = record { actor = refl; kind = refl; times = refl; keys = refl }
frame_of a (event.Detach id s) = record { actor = refl; kind = refl; times = refl; keys = refl }
frame_of a (event.SetOptions id o) = record { actor = refl; kind = refl; times = refl; keys = refl }
frame_of a (event.EventMessage id) = record { actor = refl; kind = refl; times = refl; keys = refl }
frame_of a (event.SignalInfo id) = record { actor = refl; kind = refl; times = refl; keys = refl }
frame_of a event.TracerExit = record { actor = refl; kind = refl; times = refl; keys = refl }
frame_of a (event.Wait which) = record { actor = refl; kind = refl; times = refl; keys = refl }
frame_of a (event.StarterWait which flags) = record { actor = refl; kind = refl; times = refl; keys = refl }

event_reads : (a : ℕ) (e : Event) → IsInRange e → HasAsked e → event_of (kind_of e) (at a e) ≡ Ok e
unfolding event_of
event_reads a (event.Kill g s) r asked = rw (id_reads (codes "tgid") g (at a (event.Kill g s)) refl r.0, byte_reads (codes "sig") s (at a (event.Kill g s)) refl r.1)
event_reads a (event.Tgkill g id s) r asked = rw (id_reads (codes "tgid") g (at a (event.Tgkill g id s)) refl r.0, id_reads (codes "tid") id (at a (event.Tgkill g id s)) refl r.1, byte_reads (codes "sig") s (at a (event.Tgkill g id s)) refl r.2)
event_reads a (event.Sigqueue g s v) r asked = rw (id_reads (codes "tgid") g (at a (event.Sigqueue g s v)) refl r.0, byte_reads (codes "sig") s (at a (event.Sigqueue g s v)) refl r.1, value_reads (codes "value") v (at a (event.Sigqueue g s v)) refl r.2 r.3)
event_reads a (event.Mask id set) r asked = rw (id_reads (codes "tid") id (at a (event.Mask id set)) refl r.0, set_reads (codes "set") set (at a (event.Mask id set)) refl r.1)
event_reads a (event.SetAction id s how) r asked = rw (id_reads (codes "tid") id (at a (event.SetAction id s how)) refl r.0, byte_reads (codes "sig") s (at a (event.SetAction id s how)) refl r.1, how_reads (codes "how") how (at a (event.SetAction id s how)) refl)
event_reads a (event.Pause id) r asked = rw (id_reads (codes "tid") id (at a (event.Pause id)) refl r)
event_reads a (event.Take id) r asked = rw (id_reads (codes "tid") id (at a (event.Take id)) refl r)
event_reads a (event.TakeAny g) r asked = rw (id_reads (codes "tgid") g (at a (event.TakeAny g)) refl r)
event_reads a (event.Halt id) r asked = rw (id_reads (codes "tid") id (at a (event.Halt id)) refl r)
event_reads a (event.Trap id) r asked = rw (id_reads (codes "tid") id (at a (event.Trap id)) refl r)
event_reads a (event.Die id) r asked = rw (id_reads (codes "tid") id (at a (event.Die id)) refl r)
event_reads a (event.CloneThread id) r asked = rw (id_reads (codes "tid") id (at a (event.CloneThread id)) refl r)
event_reads a (event.Exec id) r asked = rw (id_reads (codes "tid") id (at a (event.Exec id)) refl r)
event_reads a (event.Finish id) r asked = rw (id_reads (codes "tid") id (at a (event.Finish id)) refl r)
event_reads a (event.Exit id code) r asked = rw (id_reads (codes "tid") id (at a (event.Exit id code)) refl r.0, id_reads (codes "code") code (at a (event.Exit id code)) refl r.1)
event_reads a (event.ExitGroup id code) r asked = rw (id_reads (codes "tid") id (at a (event.ExitGroup id code)) refl r.0, id_reads (codes "code") code (at a (event.ExitGroup id code)) refl r.1)
event_reads a (event.Attach id) r asked = rw (id_reads (codes "tid") id (at a (event.Attach id)) refl r)
event_reads a (event.Seize id o) r asked = rw (id_reads (codes "tid") id (at a (event.Seize id o)) refl r, options_read (codes "options") o (at a (event.Seize id o)) refl)
event_reads a (event.Interrupt id) r asked = rw (id_reads (codes "tid") id (at a (event.Interrupt id)) refl r)
event_reads a (event.Cont id s) r asked = rw (id_reads (codes "tid") id (at a (event.Cont id s)) refl r.0, byte_reads (codes "sig") s (at a (event.Cont id s)) refl r.1)
event_reads a (event.Listen id) r asked = rw (id_reads (codes "tid") id (at a (event.Listen id)) refl r)
event_reads a (event.Detach id s) r asked = rw (id_reads (codes "tid") id (at a (event.Detach id s)) refl r.0, byte_reads (codes "sig") s (at a (event.Detach id s)) refl r.1)
event_reads a (event.SetOptions id o) r asked = rw (id_reads (codes "tid") id (at a (event.SetOptions id o)) refl r, options_read (codes "options") o (at a (event.SetOptions id o)) refl)
event_reads a (event.EventMessage id) r asked = rw (id_reads (codes "tid") id (at a (event.EventMessage id)) refl r)
event_reads a (event.SignalInfo id) r asked = rw (id_reads (codes "tid") id (at a (event.SignalInfo id)) refl r)
event_reads a event.TracerExit r asked = refl
event_reads a (event.Wait which) r asked = rw (id_reads (codes "tid") (id_of which) (at a (event.Wait which)) refl r, asked)
event_reads a (event.StarterWait which flags) r asked = rw (id_reads (codes "tgid") (id_of which) (at a (event.StarterWait which flags)) refl r, asked, flag_reads (codes "untraced") flags.untraced (at a (event.StarterWait which flags)) refl, flag_reads (codes "continued") flags.continued (at a (event.StarterWait which flags)) refl)

-- The whole

read_back : (a : ℕ) (e : Event) → HasFrame a e → IsWord a → 1 ≤ a → event_of (kind_of e) (at a e) ≡ Ok e → step_of (at a e) ≡ Ok (step_of_call (record { actor = a; event = e }))
unfolding step_of step_among
read_back a e frame below some reads = rw (number_reads (codes "actor") 1 (2 ^ 32 - 1) a (at a e) frame.actor some (omega (arith, below)), frame.kind, reads, frame.times, frame.keys)

pub reads_back : (c : Call) → IsWord c.actor → IsInRange c.event → IsReadBack c
reads_back c below range = λ can. read_back c.actor c.event (frame_of c.actor c.event) below can.0 (event_reads c.actor c.event range can.1)

pub steps_read : (cs : List Call) → All IsReadBack cs → All CanBeRead cs → each step_of (items_of (map call_data cs)) ≡ Ok (map step_of_call cs)
steps_read [] back can = refl
steps_read (c ∷ cs) back can = rw (All-head IsReadBack c cs back (All-head CanBeRead c cs can), steps_read cs (All-tail IsReadBack c cs back) (All-tail CanBeRead c cs can))
