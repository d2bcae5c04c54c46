-- Which reports a wait of a tracer may give, and what a wait that gives one does: waitpid(2), and "Death under ptrace" of ptrace(2).
use Rattle.std.specs.Prelude.{ℕ, ◌==◌, List, [], ◌∷◌, Bool, false, Option, Some, None, if◌then◌else◌, filter, flat_map}
use Rattle.tr_wait.specs.declared.waits.Which.{Which}
use Rattle.tr_wait.specs.Words.{asks_for}
use Rattle.tr_tracee.specs.declared.thread.Report.{Report}
use Rattle.tr_tracee.specs.declared.thread.Thread.{Thread}
use Rattle.tr_tracee.specs.Lives.{is_dead}
use Rattle.tr_tracee.specs.Stops.{without_report}
use Rattle.tr_tracee.specs.Threads.{at_thread, is_leader}
use Rattle.tr_model.specs.Ends.{pass_on, remove_thread}
use Rattle.tr_model.specs.Tracers.{tracees}
use Rattle.tr_model.specs.Tables.{Table}
use Rattle.tr_model.specs.Moves.{Work, alter}

-- a report that no wait has consumed, by its number
abbrev pub report_number : Option Report → List ℕ
report_number None = []
report_number (Some r) = r.number ∷ []

-- the actor's tracees with the id that the wait asks for, or all of them
abbrev pub asked_tracees : Table → ℕ → Which → List Thread
asked_tracees T a which = filter (λ t. asks_for which t.id) (tracees T a)

-- the reports of its tracees that it asks for
abbrev pub ready : Table → ℕ → Which → List ℕ
ready T a which = flat_map (λ t. report_number t.report) (asked_tracees T a which)

-- there is a report, and this is its number
abbrev pub has_report : ℕ → Option Report → Bool
has_report r None = false
has_report r (Some x) = x.number == r

-- the first thread whose report has the number
abbrev pub with_report : List Thread → ℕ → Option Thread
with_report [] r = None
with_report (t ∷ ts) r = if has_report r t.report then Some t else with_report ts r

-- the tracee that has the report
abbrev pub ready_thread : Table → ℕ → Which → ℕ → Option Thread
ready_thread T a which r = with_report (asked_tracees T a which) r

-- a tracer's wait for a death removes the thread; a leader's death is then reported to the starter
abbrev pub consume : Thread → Work → Work
consume t w =
    if is_dead t.life
    then if is_leader t then pass_on t t.report w else remove_thread t w
    else alter (at_thread t.id without_report) w
