-- What private functions answer: no public contract cites these.
use Rattle.std.specs.Prelude.{◌≡◌, ℕ, ◌==◌, Bool, true, false, ◌&&◌, nat_le, [], ◌∷◌, length, Result, Some, if◌then◌else◌}
use Rattle.tr_sigset.specs.Signals.{is_real_time}
use Rattle.tr_pending.specs.declared.instance.Info.{Info}
use Rattle.tr_pending.specs.declared.instance.Instance.{Instance}
use Rattle.tr_tracee.specs.declared.life.End.TheVariants.{Killed}
use Rattle.tr_tracee.specs.declared.thread.Thread.{Thread}
use Rattle.tr_tracee.specs.Lives.{is_free}
use Rattle.tr_tracee.specs.Marks.{joining, stopped}
use Rattle.tr_tracee.specs.Threads.{at_thread}
use Rattle.tr_model.specs.declared.checked.Checked.{Checked}
use Rattle.tr_model.specs.declared.replies.Refusal.{Refusal}
use Rattle.tr_model.specs.declared.replies.Refusal.TheVariants.{Srch}
use Rattle.tr_model.specs.declared.replies.Reply.TheVariants as reply
use Rattle.tr_model.specs.declared.rows.Target.{Target}
use Rattle.tr_model.specs.Causes.{exists_where, first_cause, no_signal, queue_full, unless}
use Rattle.tr_model.specs.Deaths.{begin_death, kill_group}
use Rattle.tr_model.specs.GroupStops.{complete_group_stops}
use Rattle.tr_model.specs.Moves.{Work, alter, begin, instance_in}
use Rattle.tr_model.specs.Preferred.{quiet_or, refused_or}
use Rattle.tr_model.specs.Sends.{send}
use Rattle.tr_model.specs.Steps.{Outcome, sent}
use Rattle.tr_model.specs.Choices.{no_choice}
use Rattle.tr_model.specs.Stops.{at_stop, stop_with}
use Rattle.tr_model.specs.Tables.{Table, stop_in_effect, thread_of}
use Rattle.tr_model.specs.Takes.{did_at_take, take}

-- Sends that processes ask for

-- the queue limit: RLIMIT_SIGPENDING of getrlimit(2)
abbrev pub is_over_limit : Table → ℕ → Bool
is_over_limit T s = is_real_time s && nat_le T.limit (length T.waiting)

-- what a check answers of a send, by whether its target is there
abbrev pub send_checked : Table → Bool → ℕ → Result Checked Refusal
send_checked T there s = refused_or (first_cause (no_signal s ∷ unless there Srch ∷ queue_full T s ∷ [])) (quiet_or (exists_where s) no_choice)

-- what comes of a send
abbrev pub send_outcome : ℕ → Info → Target → Table → Outcome
send_outcome s i q T = let w = complete_group_stops (send s i q (begin T)) in record { reply = sent T w; work = w }

-- Takes

-- the thread takes the instance: it is there and free, and the instance waits
pub record Takes (T : Table) (t : Thread) (i : Instance) : Type 0 where
  pub there : thread_of T t.id ≡ Some t
  pub free : is_free t.life ≡ true
  pub waits : instance_in T.waiting i.n ≡ Some i

-- what comes of it
abbrev pub take_outcome : Table → Thread → Instance → Outcome
take_outcome T t i = record { reply = reply.Took (did_at_take T t i) t.id i; work = complete_group_stops (take t i (begin T)) }

-- by a signal whose default action ends the group
abbrev pub die_of : ℕ → ℕ → Work → Work
die_of g s w = if s == 9 then kill_group g w else begin_death g (Killed s) false w

-- Group-stops, by whether somebody traces the thread

-- it takes part, and shows the stop in effect
abbrev pub halt_traced : Thread → Work → Work
halt_traced t w = at_stop (stop_in_effect w.table t.group) (stop_with t) (alter (at_thread t.id joining) w)

-- it takes part, and stops
abbrev pub halt_untraced : Thread → Work → Work
halt_untraced t w = alter (at_thread t.id stopped) (alter (at_thread t.id joining) w)
