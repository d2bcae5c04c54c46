-- The JSON lists that sets of signals and of options are written as.
use Rattle.std.specs.Prelude.{ℕ, zero, suc, List, [], ◌∷◌, ◌++◌, Bool, codes, if◌then◌else◌, map}
use Rattle.serde_json.specs.Data.{Data, array, number, string, unsigned}
use Rattle.serde_json.specs.View.{items_of}
use Rattle.tr_sigset.specs.declared.sets.SigSet.{SigSet}
use Rattle.tr_sigset.specs.Sets.{has}
use Rattle.tr_tracee.specs.declared.thread.Options.{Options}

-- a whole number
abbrev pub number_data : ℕ → Data
number_data n = number (unsigned n)

-- whole numbers
abbrev pub number_list : List ℕ → List Data
number_list ns = map number_data ns

-- texts
abbrev pub text_list : List (List ℕ) → List Data
text_list ts = map string ts

-- an array of these
abbrev pub array_data : List Data → Data
array_data ds = array (items_of ds)

-- the signal of a number, where it is a member
abbrev pub signal_if : Bool → ℕ → List ℕ
signal_if is n = if is then n ∷ [] else []

-- the members of a set among the signals 1 to n, the least first
abbrev pub signals_to : ℕ → SigSet → List ℕ
signals_to zero set = []
signals_to (suc n) set = signals_to n set ++ signal_if (has set (suc n)) (suc n)

-- the members of a set
abbrev pub signals_of : SigSet → List ℕ
signals_of set = signals_to 64 set

-- the name of an option that is set
abbrev pub name_if : Bool → List ℕ → List (List ℕ)
name_if is name = if is then name ∷ [] else []

-- the names of the options that are set
abbrev pub option_names : Options → List (List ℕ)
option_names o = name_if o.clone (codes "clone") ++ (name_if o.exec (codes "exec") ++ (name_if o.exit (codes "exit") ++ name_if o.exitkill (codes "exitkill")))
