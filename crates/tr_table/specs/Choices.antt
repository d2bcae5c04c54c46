-- Which instances a thread may take from a queue.
use Rattle.std.specs.Prelude.{ℕ, ◌==◌, ◌&&◌, List, Bool, not}
use Rattle.std.specs.List.{list_all}
use Rattle.tr_sigset.specs.declared.sets.SigSet.{SigSet}
use Rattle.tr_sigset.specs.Sets.{has}
use Rattle.tr_pending.specs.declared.instance.Instance.{Instance}
use Rattle.tr_model.specs.declared.rows.Target.{Target}
use Rattle.tr_model.specs.Tables.{same_target}
use Rattle.tr_model.specs.Takes.{goes_before, unblocked}
use Rattle.tr_queues.specs.declared.slots.Slot.{Slot}
use Rattle.tr_queues.specs.Changes.{queue_in}
use Rattle.tr_queues.specs.Slots.{standing}

-- its instance still waits for the target, and isn't blocked
abbrev pub is_open : Target → SigSet → Slot → Bool
is_open q blocked s = not s.gone && (same_target q s.waiting.target && not (has blocked s.waiting.instance.sig))

-- what waits for the target in these slots and isn't blocked
abbrev pub open_in : Target → SigSet → List Slot → List Instance
open_in q blocked ss = unblocked blocked (queue_in q (standing ss))

-- none of these goes before it
abbrev pub goes_first : List Instance → Instance → Bool
goes_first is i = list_all (λ j. not (goes_before j i)) is

-- it has the number, and none of these goes before it
abbrev pub is_choice : List Instance → Target → SigSet → ℕ → Slot → Bool
is_choice is q blocked n s = s.waiting.instance.n == n && (is_open q blocked s && goes_first is s.waiting.instance)
