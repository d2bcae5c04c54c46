-- Which instances are picked, of all that wait.
use Rattle.std.specs.Prelude.{ℕ, List, map, filter, Bool, ◌&&◌, ◌==◌}
use Rattle.std.specs.List.{list_any}
use Rattle.tr_pending.specs.declared.instance.Instance.{Instance}
use Rattle.tr_sigset.specs.Signals.{is_stop}
use Rattle.tr_sigset.specs.Sets.{has}
use Rattle.tr_tracee.specs.declared.thread.Thread.{Thread}
use Rattle.tr_model.specs.declared.rows.Target.{Target}
use Rattle.tr_model.specs.declared.rows.Waiting.{Waiting}
use Rattle.tr_model.specs.Tables.{owner_in, same_target}
use Rattle.tr_queues.specs.declared.picked.Flush.{Flush}
use Rattle.tr_queues.specs.declared.picked.Flush.TheVariants as flush
use Rattle.tr_queues.specs.declared.picked.Picked.{Picked}
use Rattle.tr_queues.specs.declared.picked.Picked.TheVariants as picked

-- the queue of a target, among all that waits
abbrev pub queue_in : Target → List Waiting → List Instance
queue_in q ws = map (λ w. w.instance) (filter (λ w. same_target q w.target) ws)

-- which signals a flush is of
abbrev pub flushes : Flush → ℕ → Bool
flushes flush.Stops s = is_stop s
flushes flush.Cont s = s == 18
flushes (flush.One t) s = s == t

-- whether the target's queue holds what is flushed
abbrev pub holds : Flush → Target → List Waiting → Bool
holds f q ws = list_any (λ i. flushes f i.sig) (queue_in q ws)

-- it waits for the group or for one of its threads, and the flush takes its signal
abbrev pub is_flushed : List Thread → ℕ → Flush → Waiting → Bool
is_flushed ts g f q = flushes f q.instance.sig && owner_in ts q.target == g

-- what is picked of all that waits
abbrev pub is_picked : List Thread → Picked → Waiting → Bool
is_picked ts (picked.Group g f) w = is_flushed ts g f w
is_picked ts (picked.Queue q) w = same_target q w.target
is_picked ts (picked.Set q set) w = same_target q w.target && has set w.instance.sig
