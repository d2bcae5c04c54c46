-- Operations of a thread on itself.
use Rattle.std.specs.Prelude.{ℕ, None, Result}
use Rattle.tr_tracee.specs.Threads.{at_thread}
use Rattle.tr_model.specs.declared.checked.Checked.{Checked}
use Rattle.tr_model.specs.declared.replies.Refusal.{Refusal}
use Rattle.tr_model.specs.declared.replies.Reply.TheVariants.{Done}
use Rattle.tr_model.specs.Causes.{first_cause, script, with_thread}
use Rattle.tr_model.specs.GroupStops.{complete_group_stops}
use Rattle.tr_model.specs.Moves.{alter, begin}
use Rattle.tr_model.specs.Preferred.{quiet_or, refused_or}
use Rattle.tr_model.specs.Steps.{Outcome}
use Rattle.tr_model.specs.Choices.{no_choice}
use Rattle.tr_model.specs.Tables.{Table}
use Rattle.tr_threads.specs.declared.thread_changes.ThreadChange.{ThreadChange}
use Rattle.tr_threads.specs.Changes.{thread_changed_by}

-- what a check answers of one that is never quiet
abbrev pub script_checked : Table → ℕ → Result Checked Refusal
script_checked T id = refused_or (first_cause (with_thread T id (script T))) (quiet_or None no_choice)

-- what comes of a change of the thread's record
abbrev pub own_outcome : ℕ → ThreadChange → Table → Outcome
own_outcome id change T = record { reply = Done; work = complete_group_stops (alter (at_thread id (thread_changed_by change)) (begin T)) }
