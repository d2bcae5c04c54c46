-- What a thread, or a group, is doing: the class of its block, and its words.
use Rattle.std.specs.Prelude.{ℕ, List, [], ◌∷◌, Bool, true, false, codes, decimal, get_or, Option, Some, None}
use Rattle.tr_wait.specs.Words.{stop_number}
use Rattle.tr_tracee.specs.declared.life.End.{End}
use Rattle.tr_tracee.specs.declared.life.End.TheVariants.{Exited, Killed}
use Rattle.tr_tracee.specs.declared.life.Life.{Life}
use Rattle.tr_tracee.specs.declared.life.Life.TheVariants as life
use Rattle.tr_tracee.specs.declared.life.Stop.TheVariants as stop
use Rattle.tr_group.specs.declared.stops.GroupStop.{GroupStop}
use Rattle.tr_group.specs.declared.stops.GroupStop.TheVariants as group
use Rattle.tr_figures.specs.declared.styles.Style.{Style}
use Rattle.tr_figures.specs.declared.styles.Style.TheVariants as style

-- the names of signals, by their numbers
abbrev pub signal_names : List (List ℕ)
signal_names =
    codes "0" ∷ codes "HUP" ∷ codes "INT" ∷ codes "QUIT" ∷ codes "ILL" ∷ codes "TRAP" ∷ codes "ABRT" ∷ codes "BUS" ∷ codes "FPE" ∷ codes "KILL" ∷ codes "USR1" ∷ codes "SEGV" ∷ codes "USR2" ∷ codes "PIPE" ∷ codes "ALRM" ∷ codes "TERM" ∷ codes "STKFLT" ∷ codes "CHLD" ∷ codes "CONT" ∷ codes "STOP" ∷ codes "TSTP" ∷ codes "TTIN" ∷ codes "TTOU" ∷ codes "URG" ∷ codes "XCPU" ∷ codes "XFSZ" ∷ codes "VTALRM" ∷ codes "PROF" ∷ codes "WINCH" ∷ codes "IO" ∷ codes "PWR" ∷ codes "SYS" ∷ codes "rt32" ∷ codes "rt33" ∷ codes "rt34" ∷ codes "rt35" ∷ codes "rt36" ∷ codes "rt37" ∷ codes "rt38" ∷ codes "rt39" ∷ codes "rt40" ∷ codes "rt41" ∷ codes "rt42" ∷ codes "rt43" ∷ codes "rt44" ∷ codes "rt45" ∷ codes "rt46" ∷ codes "rt47" ∷ codes "rt48" ∷ codes "rt49" ∷ codes "rt50" ∷ codes "rt51" ∷ codes "rt52" ∷ codes "rt53" ∷ codes "rt54" ∷ codes "rt55" ∷ codes "rt56" ∷ codes "rt57" ∷ codes "rt58" ∷ codes "rt59" ∷ codes "rt60" ∷ codes "rt61" ∷ codes "rt62" ∷ codes "rt63" ∷ codes "rt64" ∷ []

-- a number above 64 is no signal
abbrev pub signal_name : ℕ → List ℕ
signal_name s = get_or signal_names s (codes "no signal")

-- the class of a thread's block; one that is free may pause
abbrev pub style_of_life : Bool → Life → Style
style_of_life false life.Free = style.Running
style_of_life true life.Free = style.Pausing
style_of_life p life.Stopped = style.Stopped
style_of_life p (life.InStop (stop.Signal i came)) = style.SignalStop
style_of_life p (life.InStop (stop.Group s)) = style.GroupStop
style_of_life p (life.InStop (stop.Clone n)) = style.EventStop
style_of_life p (life.InStop (stop.Exec n)) = style.EventStop
style_of_life p (life.InStop (stop.Exit w)) = style.ExitStop
style_of_life p (life.InStop (stop.Event s)) = style.EventStop
style_of_life p life.Listening = style.Listening
style_of_life p (life.Leaving e told) = style.Leaving
style_of_life p (life.Dead e) = style.Dead
style_of_life p life.Execing = style.Execing

-- in pieces, how it ends, after a word
abbrev pub end_words : List ℕ → End → List (List ℕ)
end_words word (Exited code) = word ∷ decimal code ∷ []
end_words word (Killed s) = word ∷ signal_name s ∷ []

-- the words in a thread's block
abbrev pub life_words : Bool → Life → List (List ℕ)
life_words false life.Free = codes "free" ∷ []
life_words true life.Free = codes "pausing" ∷ []
life_words p life.Stopped = codes "stopped" ∷ []
life_words p (life.InStop (stop.Signal i came)) = codes "signal " ∷ signal_name i.sig ∷ []
life_words p (life.InStop (stop.Group s)) = codes "group " ∷ signal_name s ∷ []
life_words p (life.InStop (stop.Clone n)) = codes "clone " ∷ decimal n ∷ []
life_words p (life.InStop (stop.Exec n)) = codes "exec " ∷ decimal n ∷ []
life_words p (life.InStop (stop.Exit w)) = codes "exit stop" ∷ []
life_words p (life.InStop (stop.Event s)) = codes "event " ∷ signal_name (stop_number s) ∷ []
life_words p life.Listening = codes "listening" ∷ []
life_words p (life.Leaving e told) = end_words (codes "leaving ") e
life_words p (life.Dead e) = end_words (codes "dead ") e
life_words p life.Execing = codes "execing" ∷ []

-- the class of a group's block: its death comes before its stop
abbrev pub style_of_group : Option End → GroupStop → Style
style_of_group (Some e) s = style.Leaving
style_of_group None group.No = style.NoStop
style_of_group None (group.Stopping s) = style.Stopping
style_of_group None (group.Stopped s) = style.Stopped

-- the words in a group's block
abbrev pub group_words : Option End → GroupStop → List (List ℕ)
group_words (Some e) s = end_words (codes "dying ") e
group_words None group.No = codes "no stop" ∷ []
group_words None (group.Stopping s) = codes "stopping " ∷ signal_name s ∷ []
group_words None (group.Stopped s) = codes "stopped " ∷ signal_name s ∷ []
