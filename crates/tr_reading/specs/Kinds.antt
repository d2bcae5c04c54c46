-- The names of events, and the fields of each in the order in which they are looked at.
use Rattle.std.specs.Prelude.{ℕ, List, [], ◌∷◌, Option, Result, codes, find}
use Rattle.std.specs.Str.{bytes_eq}
use Rattle.serde_json.specs.Data.{Data}
use Rattle.tr_model.specs.declared.events.Event.{Event}
use Rattle.tr_model.specs.declared.events.Event.TheVariants as event
use Rattle.tr_reading.specs.declared.faults.ScenarioFault.{ScenarioFault}
use Rattle.tr_reading.specs.declared.kinds.Kind.{Kind}
use Rattle.tr_reading.specs.declared.kinds.Kind.TheVariants.{Kill, Tgkill, Sigqueue, Mask, SetAction, Pause, Take, TakeAny, Halt, Trap, Die, CloneThread, Exec, Finish, Exit, ExitGroup, Attach, Seize, Interrupt, Cont, Listen, Detach, SetOptions, EventMessage, SignalInfo, TracerExit, Wait, StarterWait}
use Rattle.tr_reading.specs.Fields.{◌>>=◌, needed, text_at}

-- what `do` calls it
abbrev pub kind_name : Kind → List ℕ
kind_name Kill = codes "kill"
kind_name Tgkill = codes "tgkill"
kind_name Sigqueue = codes "sigqueue"
kind_name Mask = codes "mask"
kind_name SetAction = codes "action"
kind_name Pause = codes "pause"
kind_name Take = codes "take"
kind_name TakeAny = codes "take_any"
kind_name Halt = codes "halt"
kind_name Trap = codes "trap"
kind_name Die = codes "die"
kind_name CloneThread = codes "clone"
kind_name Exec = codes "exec"
kind_name Finish = codes "finish"
kind_name Exit = codes "exit"
kind_name ExitGroup = codes "exit_group"
kind_name Attach = codes "attach"
kind_name Seize = codes "seize"
kind_name Interrupt = codes "interrupt"
kind_name Cont = codes "cont"
kind_name Listen = codes "listen"
kind_name Detach = codes "detach"
kind_name SetOptions = codes "options"
kind_name EventMessage = codes "message"
kind_name SignalInfo = codes "siginfo"
kind_name TracerExit = codes "tracer_exit"
kind_name Wait = codes "wait"
kind_name StarterWait = codes "starter_wait"

-- all of them
abbrev pub kinds : List Kind
kinds =
    Kill ∷ Tgkill ∷ Sigqueue ∷ Mask ∷ SetAction ∷ Pause ∷ Take ∷ TakeAny ∷ Halt ∷ Trap ∷ Die ∷ CloneThread ∷ Exec ∷ Finish
    ∷ Exit ∷ ExitGroup ∷ Attach ∷ Seize ∷ Interrupt ∷ Cont ∷ Listen ∷ Detach ∷ SetOptions ∷ EventMessage ∷ SignalInfo ∷ TracerExit ∷ Wait ∷ StarterWait ∷ []

-- the kind of a name
abbrev pub kind_named : List ℕ → Option Kind
kind_named name = find (λ k. bytes_eq (kind_name k) name) kinds

-- the kind that `do` names
unfoldable pub kind_at : List ℕ → Data → Result Kind ScenarioFault
kind_at key d = do
  name ← text_at key d
  needed (kind_named name)

-- the kind of an event
abbrev pub kind_of : Event → Kind
kind_of (event.Kill g s) = Kill
kind_of (event.Tgkill g id s) = Tgkill
kind_of (event.Sigqueue g s v) = Sigqueue
kind_of (event.Mask id set) = Mask
kind_of (event.SetAction id s how) = SetAction
kind_of (event.Pause id) = Pause
kind_of (event.Take id) = Take
kind_of (event.TakeAny g) = TakeAny
kind_of (event.Halt id) = Halt
kind_of (event.Trap id) = Trap
kind_of (event.Die id) = Die
kind_of (event.CloneThread id) = CloneThread
kind_of (event.Exec id) = Exec
kind_of (event.Finish id) = Finish
kind_of (event.Exit id code) = Exit
kind_of (event.ExitGroup id code) = ExitGroup
kind_of (event.Attach id) = Attach
kind_of (event.Seize id o) = Seize
kind_of (event.Interrupt id) = Interrupt
kind_of (event.Cont id s) = Cont
kind_of (event.Listen id) = Listen
kind_of (event.Detach id s) = Detach
kind_of (event.SetOptions id o) = SetOptions
kind_of (event.EventMessage id) = EventMessage
kind_of (event.SignalInfo id) = SignalInfo
kind_of event.TracerExit = TracerExit
kind_of (event.Wait which) = Wait
kind_of (event.StarterWait which flags) = StarterWait

-- an event is printed by the name that it is read by
abbrev pub event_name : Event → List ℕ
event_name e = kind_name (kind_of e)

-- the fields of its step, in their order
abbrev pub fields_of : Kind → List (List ℕ)
fields_of Kill = codes "tgid" ∷ codes "sig" ∷ []
fields_of Tgkill = codes "tgid" ∷ codes "tid" ∷ codes "sig" ∷ []
fields_of Sigqueue = codes "tgid" ∷ codes "sig" ∷ codes "value" ∷ []
fields_of Mask = codes "tid" ∷ codes "set" ∷ []
fields_of SetAction = codes "tid" ∷ codes "sig" ∷ codes "how" ∷ []
fields_of Pause = codes "tid" ∷ []
fields_of Take = codes "tid" ∷ []
fields_of TakeAny = codes "tgid" ∷ []
fields_of Halt = codes "tid" ∷ []
fields_of Trap = codes "tid" ∷ []
fields_of Die = codes "tid" ∷ []
fields_of CloneThread = codes "tid" ∷ []
fields_of Exec = codes "tid" ∷ []
fields_of Finish = codes "tid" ∷ []
fields_of Exit = codes "tid" ∷ codes "code" ∷ []
fields_of ExitGroup = codes "tid" ∷ codes "code" ∷ []
fields_of Attach = codes "tid" ∷ []
fields_of Seize = codes "tid" ∷ codes "options" ∷ []
fields_of Interrupt = codes "tid" ∷ []
fields_of Cont = codes "tid" ∷ codes "sig" ∷ []
fields_of Listen = codes "tid" ∷ []
fields_of Detach = codes "tid" ∷ codes "sig" ∷ []
fields_of SetOptions = codes "tid" ∷ codes "options" ∷ []
fields_of EventMessage = codes "tid" ∷ []
fields_of SignalInfo = codes "tid" ∷ []
fields_of TracerExit = []
fields_of Wait = codes "tid" ∷ []
fields_of StarterWait = codes "tgid" ∷ codes "untraced" ∷ codes "continued" ∷ []
