-- Signals are the numbers 1 to 64: signal(7).
use Rattle.std.specs.Prelude.{ℕ, ◌-◌, ◌≤◌, Bool, ◌&&◌, nat_le, List, [], ◌∷◌, slice_index_or}
use Rattle.tr_sigset.specs.declared.signals.Base.{Base}
use Rattle.tr_sigset.specs.declared.signals.Base.TheVariants.{Term, Core, Ignored, Stop, Continue}

abbrev pub IsSignal : ℕ → Type 0
IsSignal n = (1 ≤ n) × (n ≤ 64)

-- the default actions of HUP (1) to SYS (31), in the order of their numbers
abbrev pub named_bases : List Base
named_bases =
    -- HUP, INT, QUIT, ILL, TRAP, ABRT, BUS, FPE
    Term ∷ Term ∷ Core ∷ Core ∷ Core ∷ Core ∷ Core ∷ Core
    -- KILL, USR1, SEGV, USR2, PIPE, ALRM, TERM, STKFLT
    ∷ Term ∷ Term ∷ Core ∷ Term ∷ Term ∷ Term ∷ Term ∷ Term
    -- CHLD, CONT, STOP, TSTP, TTIN, TTOU, URG, XCPU
    ∷ Ignored ∷ Continue ∷ Stop ∷ Stop ∷ Stop ∷ Stop ∷ Ignored ∷ Core
    -- XFSZ, VTALRM, PROF, WINCH, IO, PWR, SYS
    ∷ Core ∷ Term ∷ Term ∷ Ignored ∷ Term ∷ Term ∷ Core ∷ []

-- what a signal does by default; a real-time one (32 to 64) ends the process
abbrev pub base_of : ℕ → Base
base_of n = slice_index_or named_bases (n - 1) Term

-- STOP, TSTP, TTIN, TTOU
abbrev pub is_stop : ℕ → Bool
is_stop n = nat_le 19 n && nat_le n 22

abbrev pub is_real_time : ℕ → Bool
is_real_time n = nat_le 32 n
