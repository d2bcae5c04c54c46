-- How an entry keeps its event and its choice.
use Rattle.std.specs.Prelude.{◌+◌, ◌*◌, ◌/◌, ◌%◌, ◌^◌, ◌==◌, ℕ, Bool, true, false}
use Rattle.tr_sigset.specs.Sets
use Rattle.tr_sigset.specs.Sets.{of_word}
use Rattle.tr_wait.specs.declared.waits.Which.{Which}
use Rattle.tr_wait.specs.declared.waits.Which.TheVariants as which
use Rattle.tr_tracee.specs.declared.thread.Options.{Options}
use Rattle.tr_model.specs.declared.events.Event.{Event}
use Rattle.tr_model.specs.declared.events.Event.TheVariants as event
use Rattle.tr_model.specs.declared.packed.Halves.{Halves}
use Rattle.tr_model.specs.declared.packed.PackedEvent.{PackedEvent}
use Rattle.tr_model.specs.declared.packed.PackedEvent.TheVariants as packed
use Rattle.tr_model.specs.Choices.{Choice, gives_id, gives_report, no_choice, packed_id, packed_number, takes_by, takes_instance}

-- a word in two halves
abbrev pub halves_of : ℕ → Halves
halves_of word = record { low = word % 2 ^ 32; high = word / 2 ^ 32 }

abbrev pub word_of : Halves → ℕ
word_of h = h.low + h.high * 2 ^ 32

-- options as the four low bits of a byte
abbrev pub bit : Bool → ℕ
bit true = 1
bit false = 0

abbrev pub bits_of : Options → ℕ
bits_of o = bit o.clone + 2 * bit o.exec + 4 * bit o.exit + 8 * bit o.exitkill

abbrev pub options_of : ℕ → Options
options_of bits = record { clone = bits % 2 == 1; exec = bits / 2 % 2 == 1; exit = bits / 4 % 2 == 1; exitkill = bits / 8 % 2 == 1 }

-- for whom a wait asks: whether for one, and for whom
abbrev pub is_one : Which → Bool
is_one which.Any = false
is_one (which.One id) = true

abbrev pub id_asked : Which → ℕ
id_asked which.Any = 0
id_asked (which.One id) = id

abbrev pub which_of : Bool → ℕ → Which
which_of true id = which.One id
which_of false id = which.Any

abbrev pub event_of : PackedEvent → Event
event_of (packed.Kill s g) = event.Kill g s
event_of (packed.Tgkill s g id) = event.Tgkill g id s
event_of (packed.Sigqueue s g v) = event.Sigqueue g s v
event_of (packed.Mask id set) = event.Mask id (of_word (word_of set))
event_of (packed.SetAction s how id) = event.SetAction id s how
event_of (packed.Pause id) = event.Pause id
event_of (packed.Take id n) = event.Take id
event_of (packed.TakeAny g n id) = event.TakeAny g
event_of (packed.Halt id) = event.Halt id
event_of (packed.Trap id) = event.Trap id
event_of (packed.Die id) = event.Die id
event_of (packed.CloneThread id new) = event.CloneThread id
event_of (packed.Exec id) = event.Exec id
event_of (packed.Finish id) = event.Finish id
event_of (packed.Exit id code) = event.Exit id code
event_of (packed.ExitGroup id code) = event.ExitGroup id code
event_of (packed.Attach id) = event.Attach id
event_of (packed.Seize bits id) = event.Seize id (options_of bits)
event_of (packed.Interrupt id) = event.Interrupt id
event_of (packed.Cont s id) = event.Cont id s
event_of (packed.Listen id) = event.Listen id
event_of (packed.Detach s id) = event.Detach id s
event_of (packed.SetOptions bits id) = event.SetOptions id (options_of bits)
event_of (packed.EventMessage id) = event.EventMessage id
event_of (packed.SignalInfo id) = event.SignalInfo id
event_of packed.TracerExit = event.TracerExit
event_of (packed.Wait one id n) = event.Wait (which_of one id)
event_of (packed.StarterWait one flags id n) = event.StarterWait (which_of one id) flags

abbrev pub choice_of : PackedEvent → Choice
choice_of (packed.Take id n) = takes_instance (word_of n)
choice_of (packed.TakeAny g n id) = takes_by id (word_of n)
choice_of (packed.CloneThread id new) = gives_id new
choice_of (packed.Wait one id n) = gives_report (word_of n)
choice_of (packed.StarterWait one flags id n) = gives_report (word_of n)
choice_of _ = no_choice

-- an event with its choice, which is by a number and an id
abbrev pub pack : Event → Choice → PackedEvent
pack e c = packed_by e (packed_number c) (packed_id c)
  where
    packed_by : Event → ℕ → ℕ → PackedEvent
    packed_by (event.Kill g s) n i = packed.Kill s g
    packed_by (event.Tgkill g id s) n i = packed.Tgkill s g id
    packed_by (event.Sigqueue g s v) n i = packed.Sigqueue s g v
    packed_by (event.Mask id set) n i = packed.Mask id (halves_of (Sets.word_of set))
    packed_by (event.SetAction id s how) n i = packed.SetAction s how id
    packed_by (event.Pause id) n i = packed.Pause id
    packed_by (event.Take id) n i = packed.Take id (halves_of n)
    packed_by (event.TakeAny g) n i = packed.TakeAny g (halves_of n) i
    packed_by (event.Halt id) n i = packed.Halt id
    packed_by (event.Trap id) n i = packed.Trap id
    packed_by (event.Die id) n i = packed.Die id
    packed_by (event.CloneThread id) n i = packed.CloneThread id i
    packed_by (event.Exec id) n i = packed.Exec id
    packed_by (event.Finish id) n i = packed.Finish id
    packed_by (event.Exit id code) n i = packed.Exit id code
    packed_by (event.ExitGroup id code) n i = packed.ExitGroup id code
    packed_by (event.Attach id) n i = packed.Attach id
    packed_by (event.Seize id o) n i = packed.Seize (bits_of o) id
    packed_by (event.Interrupt id) n i = packed.Interrupt id
    packed_by (event.Cont id s) n i = packed.Cont s id
    packed_by (event.Listen id) n i = packed.Listen id
    packed_by (event.Detach id s) n i = packed.Detach s id
    packed_by (event.SetOptions id o) n i = packed.SetOptions (bits_of o) id
    packed_by (event.EventMessage id) n i = packed.EventMessage id
    packed_by (event.SignalInfo id) n i = packed.SignalInfo id
    packed_by event.TracerExit n i = packed.TracerExit
    packed_by (event.Wait which) n i = packed.Wait (is_one which) (id_asked which) (halves_of n)
    packed_by (event.StarterWait which flags) n i = packed.StarterWait (is_one which) flags (id_asked which) (halves_of n)
