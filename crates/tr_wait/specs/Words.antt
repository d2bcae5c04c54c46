-- The word of a wait status: the macros of waitpid(2), and the event stops of ptrace(2).
use Rattle.std.specs.Prelude.{◌≡◌, ◌≢◌, ℕ, ◌+◌, ◌*◌, ◌<◌, ◌==◌, Bool, true, ◌||◌, Option, Some, None, if◌then◌else◌}
use Rattle.tr_sigset.specs.Signals.{IsSignal}
use Rattle.tr_wait.specs.declared.status.Status.{Status}
use Rattle.tr_wait.specs.declared.status.Status.TheVariants.{Exited, Killed, Stopped, Clone, Exec, Exit, EventStop, Continued}
use Rattle.tr_wait.specs.declared.status.StopSig.{StopSig}
use Rattle.tr_wait.specs.declared.status.StopSig.TheVariants.{Trap, Stop, Tstp, Ttin, Ttou}
use Rattle.tr_wait.specs.declared.waits.Which.{Which}
use Rattle.tr_wait.specs.declared.waits.Which.TheVariants.{Any, One}

-- the number of the signal that an event stop shows
abbrev pub stop_number : StopSig → ℕ
stop_number Trap = 5
stop_number Stop = 19
stop_number Tstp = 20
stop_number Ttin = 21
stop_number Ttou = 22

-- the event stop of a group-stop by this signal
abbrev pub stop_sig_of : ℕ → StopSig
stop_sig_of n = if n == 19 then Stop else if n == 20 then Tstp else if n == 21 then Ttin else if n == 22 then Ttou else Trap

-- codes are 0 to 255, signals 1 to 64
abbrev pub IsStatus : Status → Type 0
IsStatus (Exited code) = code < 256
IsStatus (Killed signal) = IsSignal signal
IsStatus (Stopped signal) = IsSignal signal
IsStatus _ = Unit {0}

abbrev pub word : Status → ℕ
word (Exited code) = code * 256
word (Killed signal) = signal
word (Stopped signal) = signal * 256 + 0x7f
word Clone = 0x3057f
word Exec = 0x4057f
word Exit = 0x6057f
word (EventStop shown) = 128 * 65536 + stop_number shown * 256 + 0x7f
word Continued = 0xffff

-- the status of a word, or none where no status has it
abbrev pub IsMeaning : ℕ → Option Status → Type 0
IsMeaning w (Some s) = IsStatus s × (word s ≡ w)
IsMeaning w None = (s : Status) → IsStatus s → word s ≢ w

-- whether a wait asks for this id
abbrev pub asks_for : Which → ℕ → Bool
asks_for Any id = true
asks_for (One asked) id = asked == 0 || asked == id
