-- The queue of one target, among all that waits.
use Rattle.std.specs.Prelude.{ℕ, ◌+◌, ◌<◌, ◌==◌, ◌&&◌, Bool, List, [], ◌∷◌, if◌then◌else◌}
use Rattle.tr_sigset.specs.declared.sets.SigSet.{SigSet}
use Rattle.tr_sigset.specs.Sets.{has}
use Rattle.tr_model.specs.declared.rows.Target.{Target}
use Rattle.tr_model.specs.declared.rows.Target.TheVariants as target
use Rattle.tr_model.specs.declared.rows.Waiting.{Waiting}
use Rattle.tr_model.specs.Tables.{same_target}

-- one of a thread's own queue, none of a group's
abbrev pub own_share : Target → ℕ
own_share (target.Thread id) = 1
own_share (target.Group g) = 0

-- how many wait for threads
abbrev pub count_own : List Waiting → ℕ
count_own [] = 0
count_own (w ∷ ws) = own_share w.target + count_own ws

-- for the target, of the signal
abbrev pub is_one : Target → ℕ → Waiting → Bool
is_one q s w = same_target q w.target && w.instance.sig == s

-- for the target, of a signal in the set
abbrev pub is_of : Target → SigSet → Waiting → Bool
is_of q set w = same_target q w.target && has set w.instance.sig

-- without the target's first instance of the signal
abbrev pub without_one : Target → ℕ → List Waiting → List Waiting
without_one q s [] = []
without_one q s (w ∷ ws) = if is_one q s w then ws else w ∷ without_one q s ws

-- each number that waits is below this one
abbrev pub AllBelow : ℕ → List Waiting → Type 0
AllBelow n [] = Unit {0}
AllBelow n (w ∷ ws) = (w.instance.n < n) × AllBelow n ws
