-- What an action makes of a signal: signal(7), "Signal dispositions".
use Rattle.std.specs.Prelude.{ℕ, Bool, true, false}
use Rattle.tr_sigset.specs.declared.signals.Base.{Base}
use Rattle.tr_sigset.specs.declared.signals.Base.TheVariants.{Ignored, Continue}
use Rattle.tr_sigset.specs.Signals.{base_of}
use Rattle.tr_group.specs.declared.stops.Action.{Action}
use Rattle.tr_group.specs.declared.stops.Action.TheVariants.{Default, Ignore, Catch}

-- a signal that continues does it when it is sent, so at its delivery nothing is left to do
abbrev pub does_nothing : Base → Bool
does_nothing Ignored = true
does_nothing Continue = true
does_nothing _ = false

-- the signal is ignored: by its action, or by a default action that does nothing
abbrev pub ignoring : Action → ℕ → Bool
ignoring Ignore s = true
ignoring Default s = does_nothing (base_of s)
ignoring Catch s = false

-- execve(2): a caught signal is set to its default action, an ignored one stays ignored
abbrev pub reset : Action → Action
reset Catch = Default
reset a = a
