-- The group-stop of a group: "Group-stop" of ptrace(2).
use Rattle.std.specs.Prelude.{ℕ, Bool, true, false, Option, Some, None}
use Rattle.tr_sigset.specs.declared.signals.Signal.{Signal}
use Rattle.tr_group.specs.declared.stops.GroupStop.{GroupStop}
use Rattle.tr_group.specs.declared.stops.GroupStop.TheVariants.{No, Stopping, Stopped}

-- the signal of the group-stop in effect
abbrev pub stop_signal : GroupStop → Option Signal
stop_signal No = None
stop_signal (Stopping s) = Some s
stop_signal (Stopped s) = Some s

-- some threads have still to stop
abbrev pub is_stopping : GroupStop → Bool
is_stopping (Stopping s) = true
is_stopping _ = false

-- all its threads have stopped
abbrev pub is_complete : GroupStop → Bool
is_complete (Stopped s) = true
is_complete _ = false

-- one in effect keeps its signal and its kind
abbrev pub begun : ℕ → GroupStop → GroupStop
begun s No = Stopping s
begun s old = old

-- the last thread has stopped
abbrev pub completed : GroupStop → GroupStop
completed (Stopping s) = Stopped s
completed old = old
