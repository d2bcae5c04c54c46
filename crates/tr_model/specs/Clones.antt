-- A new thread of a group: clone(2) with CLONE_THREAD.
use Rattle.std.specs.Prelude.{ℕ, pos, not, is_some}
use Rattle.tr_tracee.specs.declared.life.Stop.TheVariants as stop
use Rattle.tr_tracee.specs.declared.thread.Thread.{Thread}
use Rattle.tr_tracee.specs.Threads.{options_of, seized}
use Rattle.tr_model.specs.declared.rows.Target.TheVariants as target
use Rattle.tr_model.specs.Sends.{info}
use Rattle.tr_model.specs.Tables.{stop_in_effect}
use Rattle.tr_model.specs.Moves.{Work, enqueue, enter, spawn, when}

-- the parent stops, and an attached child gets a SIGSTOP
abbrev pub clone_stop : Thread → ℕ → Work → Work
clone_stop t id w = when (not (seized t.trace)) (enqueue 19 (info (pos 0) 0 (pos 0)) (target.Thread id)) (enter t.id (stop.Clone id) w)

-- the new thread has to stop too where a group-stop is in effect; with option clone the parent enters a ptrace-stop
abbrev pub clone : Thread → ℕ → Work → Work
clone t id w = when (options_of t.trace).clone (clone_stop t id) (spawn t.id id (is_some (stop_in_effect w.table t.group)) w)
