-- What a JSON value means as an event of a kind.
use Rattle.std.specs.Prelude.{ℕ, List, [], ◌∷◌, true, ◌||◌, ◌==◌, if◌then◌else◌, Result, Ok, Err, codes}
use Rattle.std.specs.Str.{bytes_eq}
use Rattle.serde_json.specs.Data.{Data}
use Rattle.serde_json.specs.Find.{as_str}
use Rattle.tr_wait.specs.declared.waits.Which.{Which}
use Rattle.tr_wait.specs.declared.waits.Which.TheVariants.{Any, One}
use Rattle.tr_tracee.specs.declared.thread.Options.{Options}
use Rattle.tr_tracee.specs.Threads.{no_options}
use Rattle.tr_model.specs.declared.events.Event.{Event}
use Rattle.tr_model.specs.declared.events.Event.TheVariants as event
use Rattle.tr_reading.specs.declared.faults.ScenarioFault.{ScenarioFault}
use Rattle.tr_reading.specs.declared.faults.ScenarioFault.TheVariants.{BadField}
use Rattle.tr_reading.specs.declared.kinds.Kind.{Kind}
use Rattle.tr_reading.specs.declared.kinds.Kind.TheVariants.{Kill, Tgkill, Sigqueue, Mask, SetAction, Pause, Take, TakeAny, Halt, Trap, Die, CloneThread, Exec, Finish, Exit, ExitGroup, Attach, Seize, Interrupt, Cont, Listen, Detach, SetOptions, EventMessage, SignalInfo, TracerExit, Wait, StarterWait}
use Rattle.tr_reading.specs.Fields.{◌>>=◌, flag_at, id_at, list_at, needed, number_at, set_at, value_at}
use Rattle.tr_reading.specs.Groups.{how_at}

-- a wait's id: 0 asks for any
abbrev pub which_of : ℕ → Which
which_of n = if n == 0 then Any else One n

-- the option of a name
abbrev pub option_named : List ℕ → Result Options ScenarioFault
option_named t = if bytes_eq t (codes "clone") then Ok (record no_options { clone = true }) else (if bytes_eq t (codes "exec") then Ok (record no_options { exec = true }) else (if bytes_eq t (codes "exit") then Ok (record no_options { exit = true }) else (if bytes_eq t (codes "exitkill") then Ok (record no_options { exitkill = true }) else Err BadField)))

-- the option that a value names
unfoldable pub option_of : Data → Result Options ScenarioFault
option_of d = do
  t ← needed (as_str d)
  option_named t

-- one option twice is as once
abbrev pub both : Options → Options → Options
both o p = record { clone = o.clone || p.clone; exec = o.exec || p.exec; exit = o.exit || p.exit; exitkill = o.exitkill || p.exitkill }

-- all of the options together
abbrev pub joined : Options → List Options → Options
joined o [] = o
joined o (p ∷ ps) = joined (both o p) ps

-- a list of names, in which one twice is as once
unfoldable pub options_at : List ℕ → Data → Result Options ScenarioFault
options_at key d = do
  os ← list_at key option_of d
  Ok (joined no_options os)

-- the event of a kind, its fields looked at in their order
unfoldable pub event_of : Kind → Data → Result Event ScenarioFault
event_of Kill d = do
  tgid ← id_at (codes "tgid") d
  sig ← number_at (codes "sig") 0 255 d
  Ok (event.Kill tgid sig)
event_of Tgkill d = do
  tgid ← id_at (codes "tgid") d
  tid ← id_at (codes "tid") d
  sig ← number_at (codes "sig") 0 255 d
  Ok (event.Tgkill tgid tid sig)
event_of Sigqueue d = do
  tgid ← id_at (codes "tgid") d
  sig ← number_at (codes "sig") 0 255 d
  value ← value_at (codes "value") d
  Ok (event.Sigqueue tgid sig value)
event_of Mask d = do
  tid ← id_at (codes "tid") d
  set ← set_at (codes "set") d
  Ok (event.Mask tid set)
event_of SetAction d = do
  tid ← id_at (codes "tid") d
  sig ← number_at (codes "sig") 0 255 d
  how ← how_at (codes "how") d
  Ok (event.SetAction tid sig how)
event_of Pause d = do
  tid ← id_at (codes "tid") d
  Ok (event.Pause tid)
event_of Take d = do
  tid ← id_at (codes "tid") d
  Ok (event.Take tid)
event_of TakeAny d = do
  tgid ← id_at (codes "tgid") d
  Ok (event.TakeAny tgid)
event_of Halt d = do
  tid ← id_at (codes "tid") d
  Ok (event.Halt tid)
event_of Trap d = do
  tid ← id_at (codes "tid") d
  Ok (event.Trap tid)
event_of Die d = do
  tid ← id_at (codes "tid") d
  Ok (event.Die tid)
event_of CloneThread d = do
  tid ← id_at (codes "tid") d
  Ok (event.CloneThread tid)
event_of Exec d = do
  tid ← id_at (codes "tid") d
  Ok (event.Exec tid)
event_of Finish d = do
  tid ← id_at (codes "tid") d
  Ok (event.Finish tid)
event_of Exit d = do
  tid ← id_at (codes "tid") d
  code ← id_at (codes "code") d
  Ok (event.Exit tid code)
event_of ExitGroup d = do
  tid ← id_at (codes "tid") d
  code ← id_at (codes "code") d
  Ok (event.ExitGroup tid code)
event_of Attach d = do
  tid ← id_at (codes "tid") d
  Ok (event.Attach tid)
event_of Seize d = do
  tid ← id_at (codes "tid") d
  options ← options_at (codes "options") d
  Ok (event.Seize tid options)
event_of Interrupt d = do
  tid ← id_at (codes "tid") d
  Ok (event.Interrupt tid)
event_of Cont d = do
  tid ← id_at (codes "tid") d
  sig ← number_at (codes "sig") 0 255 d
  Ok (event.Cont tid sig)
event_of Listen d = do
  tid ← id_at (codes "tid") d
  Ok (event.Listen tid)
event_of Detach d = do
  tid ← id_at (codes "tid") d
  sig ← number_at (codes "sig") 0 255 d
  Ok (event.Detach tid sig)
event_of SetOptions d = do
  tid ← id_at (codes "tid") d
  options ← options_at (codes "options") d
  Ok (event.SetOptions tid options)
event_of EventMessage d = do
  tid ← id_at (codes "tid") d
  Ok (event.EventMessage tid)
event_of SignalInfo d = do
  tid ← id_at (codes "tid") d
  Ok (event.SignalInfo tid)
event_of TracerExit d = Ok event.TracerExit
event_of Wait d = do
  tid ← id_at (codes "tid") d
  Ok (event.Wait (which_of tid))
event_of StarterWait d = do
  tgid ← id_at (codes "tgid") d
  untraced ← flag_at (codes "untraced") d
  continued ← flag_at (codes "continued") d
  Ok (event.StarterWait (which_of tgid) (record { untraced = untraced; continued = continued }))
