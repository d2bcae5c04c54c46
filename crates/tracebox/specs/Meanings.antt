-- What a status is, in words.
use Rattle.std.specs.Prelude.{ℕ, List, [], ◌∷◌, codes, decimal}
use Rattle.tr_wait.specs.declared.status.Status.{Status}
use Rattle.tr_wait.specs.declared.status.Status.TheVariants.{Exited, Killed, Stopped, Clone, Exec, Exit, EventStop, Continued}
use Rattle.tr_wait.specs.Words.{stop_number}
use Rattle.tr_status.specs.Texts.{texts}

-- a name and a value
abbrev pub line : List ℕ → List ℕ → List ℕ
line name value = texts (name ∷ value ∷ codes "\n" ∷ [])

-- codes and signals are told as decimal numbers
abbrev pub meaning_line : Status → List ℕ
meaning_line (Exited code) = line (codes "exited ") (decimal code)
meaning_line (Killed signal) = line (codes "killed ") (decimal signal)
meaning_line (Stopped signal) = line (codes "stopped ") (decimal signal)
meaning_line Clone = line (codes "event ") (codes "clone")
meaning_line Exec = line (codes "event ") (codes "exec")
meaning_line Exit = line (codes "event ") (codes "exit")
meaning_line (EventStop shown) = line (codes "event stop ") (decimal (stop_number shown))
meaning_line Continued = codes "continued\n"
