-- How threads and groups end: _exit(2), exit_group(2), "Death under ptrace" of ptrace(2).
use Rattle.std.specs.Prelude.{ℕ, ◌%◌, ◌==◌, false, Option, Some, None, if◌then◌else◌, unwrap_or}
use Rattle.tr_wait.specs.Words.{word}
use Rattle.tr_tracee.specs.declared.life.End.{End}
use Rattle.tr_tracee.specs.declared.life.End.TheVariants.{Exited}
use Rattle.tr_tracee.specs.declared.life.Life.{Life}
use Rattle.tr_tracee.specs.declared.life.Life.TheVariants as life
use Rattle.tr_tracee.specs.declared.life.Stop.TheVariants as stop
use Rattle.tr_tracee.specs.declared.thread.Report.{Report}
use Rattle.tr_tracee.specs.declared.thread.Thread.{Thread}
use Rattle.tr_tracee.specs.Ends.{dead, leaving, released, unmarked}
use Rattle.tr_tracee.specs.Lives.{status_of_end}
use Rattle.tr_tracee.specs.Threads.{at_thread, is_leader, is_traced, options_of}
use Rattle.tr_model.specs.declared.fates.Fate.TheVariants.{Flushed}
use Rattle.tr_model.specs.declared.rows.Target.TheVariants as target
use Rattle.tr_model.specs.Deaths.{begin_death}
use Rattle.tr_model.specs.Tables.{Table, all_dead, group_end, same_target}
use Rattle.tr_model.specs.Moves.{Work, alter, at, drop_empty, end_waiting, enter, remove_dead, report_death, when}

-- the low byte of a code counts
abbrev pub exited : ℕ → End
exited code = Exited (code % 256)

-- the wait status of an end as waitpid(2) gives it; it is also the message of an exit stop
abbrev pub word_of_end : End → ℕ
word_of_end e = word (status_of_end e)

-- Exits

-- with option exit the thread stops before it leaves
abbrev pub exit : Thread → ℕ → Work → Work
exit t code w =
    let x = alter (at_thread t.id unmarked) w in
    if (options_of t.trace).exit then enter t.id (stop.Exit (word_of_end (exited code))) x else alter (at_thread t.id (leaving (exited code))) x

-- the group begins to die with this code, not as by a KILL: a tracee with option exit still has its exit stop
abbrev pub exit_group : ℕ → Thread → Work → Work
exit_group code t w = begin_death t.group (exited code) false w

-- Deaths

-- the end that a death report tells: the group's where it is dying, else the thread's own
abbrev pub reported_end : Table → Thread → End → End
reported_end T t e = unwrap_or (group_end T t.group) e

-- how a dead thread itself ended; an exit with 0 only fills in for other lives
abbrev pub end_of_dead : Life → End
end_of_dead (life.Dead e) = e
end_of_dead _ = Exited 0

-- a dead leader's report, for its tracer, else for the starter
abbrev pub report_leader : Thread → Work → Work
report_leader t w = report_death t.id (reported_end w.table t (end_of_dead t.life)) w

-- with a group's last thread the shared queue goes, and the leader's death is reported
abbrev pub last_death : ℕ → Work → Work
last_death g w = at g report_leader (end_waiting Flushed (λ q. same_target (target.Group g) q.target) w)

-- a dead thread that isn't the leader is gone, unless its tracer has to learn of its death
abbrev pub bury : Thread → End → Work → Work
bury t e w =
    if is_leader t then w
    else if is_traced t then report_death t.id (reported_end w.table t e) w
    else remove_dead (λ x. x.id == t.id) w

-- the thread is dead, and what was pending in its own queue is flushed
abbrev pub die_and_flush : Thread → Work → Work
die_and_flush t w = end_waiting Flushed (λ q. same_target (target.Thread t.id) q.target) (alter (at_thread t.id dead) w)

-- a group's end waits for all its threads to be dead, not for their tracers to have waited for them
abbrev pub report_if_last : ℕ → Work → Work
report_if_last g w = when (all_dead w.table g) (last_death g) w

-- a leaving thread that isn't told is in its exit stop first
abbrev pub die : Thread → Life → Work → Work
die t (life.Leaving e told) w =
    if told
    then report_if_last t.group (bury t e (die_and_flush t w))
    else enter t.id (stop.Exit (word_of_end e)) w
die t _ w = w

-- a dead thread goes, and its group with its last thread
abbrev pub remove_thread : Thread → Work → Work
remove_thread t w = drop_empty t.group (remove_dead (λ x. x.id == t.id) w)

-- a dead leader without its tracer: its report, if it has one, passes to the starter
abbrev pub pass_on : Thread → Option Report → Work → Work
pass_on t None w = alter (at_thread t.id released) w
pass_on t (Some r) w = report_leader t (alter (at_thread t.id released) w)
