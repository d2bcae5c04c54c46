-- clone(2) and execve(2): "execve(2) under ptrace" of ptrace(2).
use Rattle.std.specs.Prelude.{ℕ, pos, not, ◌&&◌, if◌then◌else◌, map}
use Rattle.tr_tracee.specs.declared.life.End.TheVariants.{Exited}
use Rattle.tr_tracee.specs.declared.life.Stop.TheVariants as stop
use Rattle.tr_tracee.specs.declared.thread.Thread.{Thread}
use Rattle.tr_tracee.specs.Ends.{begun_to_leave_by_exec, execed, execing}
use Rattle.tr_tracee.specs.Threads.{at_group, at_thread, is_leader, is_traced, options_of, seized}
use Rattle.tr_group.specs.Actions.{reset}
use Rattle.tr_model.specs.declared.fates.Fate.TheVariants.{Flushed}
use Rattle.tr_model.specs.declared.rows.Group.{Group}
use Rattle.tr_model.specs.declared.rows.Target.TheVariants as target
use Rattle.tr_model.specs.Sends.{info, send}
use Rattle.tr_model.specs.Tables.{others_dead}
use Rattle.tr_model.specs.Moves.{Work, alter, at, become, enter, only_group, regroup, take_place, when}

-- handlers are lost with the old program: caught signals have their default action, ignored ones stay ignored
abbrev pub with_reset : Group → Group
with_reset x = record x { actions = map reset x.actions }

-- an attached tracee without option exec gets a SIGTRAP
abbrev pub trap_new : Thread → Work → Work
trap_new t w = when (is_traced t && not (seized t.trace)) (send 5 (info (pos 0) t.id (pos 0)) (target.Thread t.id)) w

-- the thread, which had this id before, has a new program
abbrev pub new_program : ℕ → Thread → Work → Work
new_program former t w =
    let x = regroup (only_group t.group with_reset) w in
    if (options_of t.trace).exec then enter t.id (stop.Exec former) x else trap_new t x

-- the other threads begin to leave
abbrev pub break_others : ℕ → ℕ → Work → Work
break_others g id w = become Flushed (at_group g (begun_to_leave_by_exec id (Exited 0))) w

-- a leader without other threads has its new program at once; any other thread waits for their deaths
abbrev pub exec : Thread → Work → Work
exec t w =
    if is_leader t && others_dead w.table t then new_program t.id t w
    else alter (at_thread t.id execing) (break_others t.group t.id w)

-- then it is the leader
abbrev pub finish : Thread → Work → Work
finish t w = at t.group (new_program t.id) (alter (at_thread t.group execed) (take_place t.id w))
