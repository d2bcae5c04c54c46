-- What only the contracts of this crate's own functions cite.
use Rattle.std.specs.Prelude.{ℕ, ℤ, pos, negsuc, ◌<◌, ◌^◌, int_le, IsTrue, ⊤}
use Rattle.tr_sigset.specs.Sets.{word_of}
use Rattle.tr_model.specs.declared.events.Event.{Event}
use Rattle.tr_model.specs.declared.events.Event.TheVariants as event
use Rattle.tr_encoding.specs.Calls.{id_of}

-- a number of 32 bits
abbrev pub IsWord : ℕ → Type 0
IsWord n = n < 2 ^ 32

-- a number of 8 bits
abbrev pub IsByte : ℕ → Type 0
IsByte n = n < 2 ^ 8

-- the numbers of an event are as long as they may be
abbrev pub IsInRange : Event → Type 0
IsInRange (event.Kill g s) = IsWord g × IsByte s
IsInRange (event.Tgkill g id s) = IsWord g × IsWord id × IsByte s
IsInRange (event.Sigqueue g s v) = IsWord g × IsByte s × IsTrue (int_le (negsuc 2147483647) v) × IsTrue (int_le v (pos 2147483647))
IsInRange (event.Mask id set) = IsWord id × (word_of set < 2 ^ 64)
IsInRange (event.SetAction id s how) = IsWord id × IsByte s
IsInRange (event.Pause id) = IsWord id
IsInRange (event.Take id) = IsWord id
IsInRange (event.TakeAny g) = IsWord g
IsInRange (event.Halt id) = IsWord id
IsInRange (event.Trap id) = IsWord id
IsInRange (event.Die id) = IsWord id
IsInRange (event.CloneThread id) = IsWord id
IsInRange (event.Exec id) = IsWord id
IsInRange (event.Finish id) = IsWord id
IsInRange (event.Exit id code) = IsWord id × IsWord code
IsInRange (event.ExitGroup id code) = IsWord id × IsWord code
IsInRange (event.Attach id) = IsWord id
IsInRange (event.Seize id o) = IsWord id
IsInRange (event.Interrupt id) = IsWord id
IsInRange (event.Cont id s) = IsWord id × IsByte s
IsInRange (event.Listen id) = IsWord id
IsInRange (event.Detach id s) = IsWord id × IsByte s
IsInRange (event.SetOptions id o) = IsWord id
IsInRange (event.EventMessage id) = IsWord id
IsInRange (event.SignalInfo id) = IsWord id
IsInRange event.TracerExit = ⊤
IsInRange (event.Wait which) = IsWord (id_of which)
IsInRange (event.StarterWait which flags) = IsWord (id_of which)
