-- A queue of pending signals: the list of its instances, in order of acceptance. signal(7), "Queueing and delivery
-- semantics for multiple signals".
use Rattle.std.specs.Prelude.{◌≡◌, ℕ, Bool, not, ◌&&◌, ◌==◌, nat_lt, nat_le, List, [], ◌∷◌, ◌++◌, Option, Some, None, filter, slice_get, if◌then◌else◌}
use Rattle.std.specs.List.{list_any, position_or_len, remove}
use Rattle.tr_sigset.specs.declared.sets.SigSet.{SigSet}
use Rattle.tr_sigset.specs.Sets.{has}
use Rattle.tr_pending.specs.declared.instance.Instance.{Instance}

-- whether an instance of the signal waits
abbrev pub is_waiting : ℕ → List Instance → Bool
is_waiting signal queue = list_any (λ i. i.sig == signal) queue

-- the set of the signals that wait
abbrev pub IsMask : SigSet → List Instance → Type 0
IsMask set queue = (n : ℕ) → has set n ≡ is_waiting n queue

-- a standard signal that already waits is merged with it; a real-time one never is
abbrev pub merges : ℕ → List Instance → Bool
merges signal queue = nat_lt signal 32 && is_waiting signal queue

abbrev pub after_put : Instance → List Instance → List Instance
after_put i queue = if merges i.sig queue then queue else (queue ++ i ∷ [])

-- the place of the first instance of a signal, or the queue's length
abbrev pub place_of : ℕ → List Instance → ℕ
place_of signal queue = position_or_len (λ i. i.sig == signal) queue

abbrev pub first_of : ℕ → List Instance → Option Instance
first_of signal queue = slice_get queue (place_of signal queue)

abbrev pub without_first : ℕ → List Instance → List Instance
without_first signal queue = remove queue (place_of signal queue)

-- this instance, unless the other has a lesser signal number
abbrev pub preferred_of : Instance → Option Instance → Instance
preferred_of i None = i
preferred_of i (Some j) = if nat_le i.sig j.sig then i else j

-- the first instance of the least signal number that isn't blocked
abbrev pub best_of : SigSet → List Instance → Option Instance
best_of blocked [] = None
best_of blocked (i ∷ rest) = if has blocked i.sig then best_of blocked rest else Some (preferred_of i (best_of blocked rest))

-- the instances whose signal is in the set, and the others
abbrev pub flushed_by : SigSet → List Instance → List Instance
flushed_by set queue = filter (λ i. has set i.sig) queue

abbrev pub kept_by : SigSet → List Instance → List Instance
kept_by set queue = filter (λ i. not (has set i.sig)) queue
