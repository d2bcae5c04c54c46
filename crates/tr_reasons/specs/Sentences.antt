-- What is told of an answer: one line below that of its call.
use Rattle.std.specs.Prelude.{ℕ, List, [], ◌∷◌, Option, Some, None, codes, decimal, slice_index_or}
use Rattle.tr_wait.specs.Words.{stop_number}
use Rattle.tr_tracee.specs.declared.life.Life.{Life}
use Rattle.tr_tracee.specs.declared.life.Life.TheVariants as life
use Rattle.tr_tracee.specs.declared.life.Stop.{Stop}
use Rattle.tr_tracee.specs.declared.life.Stop.TheVariants as stop
use Rattle.tr_tracee.specs.declared.thread.Thread.{Thread}
use Rattle.tr_model.specs.declared.events.Event.{Event}
use Rattle.tr_model.specs.declared.events.Event.TheVariants as event
use Rattle.tr_model.specs.declared.replies.Refusal.{Refusal}
use Rattle.tr_model.specs.declared.replies.Refusal.TheVariants as refusal
use Rattle.tr_status.specs.Texts.{texts}
use Rattle.tr_reasons.specs.declared.reasons.Reason.{Reason}
use Rattle.tr_reasons.specs.declared.reasons.Reason.TheVariants as reason
use Rattle.tr_reasons.specs.declared.sentences.Sentence.{Sentence}
use Rattle.tr_reasons.specs.Reasons.{refusal_of}

-- Lines

-- what it is about; a sentence with a number, and beside it the name of a signal; and where the rule stands
abbrev pub told : List ℕ → List ℕ → ℕ → List ℕ → List ℕ → List ℕ → List ℕ
told name before n aside after source = texts (codes "  " ∷ name ∷ codes ": " ∷ before ∷ decimal n ∷ aside ∷ after ∷ codes "; " ∷ source ∷ codes "\n" ∷ [])

-- the line of a sentence
abbrev pub line_of : Sentence → List ℕ
line_of s = told s.name.now s.before.now s.number s.aside.now s.after.now s.source.now

-- without one nothing is told
abbrev pub lines_of : Option Sentence → List ℕ
lines_of None = []
lines_of (Some s) = line_of s

-- the names of the standard signals by their numbers, each in parentheses
abbrev pub signal_names : List (List ℕ)
signal_names =
    codes ""
    ∷ codes " (SIGHUP)" ∷ codes " (SIGINT)" ∷ codes " (SIGQUIT)" ∷ codes " (SIGILL)"
    ∷ codes " (SIGTRAP)" ∷ codes " (SIGABRT)" ∷ codes " (SIGBUS)" ∷ codes " (SIGFPE)"
    ∷ codes " (SIGKILL)" ∷ codes " (SIGUSR1)" ∷ codes " (SIGSEGV)" ∷ codes " (SIGUSR2)"
    ∷ codes " (SIGPIPE)" ∷ codes " (SIGALRM)" ∷ codes " (SIGTERM)" ∷ codes " (SIGSTKFLT)"
    ∷ codes " (SIGCHLD)" ∷ codes " (SIGCONT)" ∷ codes " (SIGSTOP)" ∷ codes " (SIGTSTP)"
    ∷ codes " (SIGTTIN)" ∷ codes " (SIGTTOU)" ∷ codes " (SIGURG)" ∷ codes " (SIGXCPU)"
    ∷ codes " (SIGXFSZ)" ∷ codes " (SIGVTALRM)" ∷ codes " (SIGPROF)" ∷ codes " (SIGWINCH)"
    ∷ codes " (SIGIO)" ∷ codes " (SIGPWR)" ∷ codes " (SIGSYS)" ∷ []

-- a real-time signal has no name
abbrev pub named : ℕ → List ℕ
named s = slice_index_or signal_names s (codes "")

-- Refusals

-- the manual pages' errors, and this model's own
abbrev pub refusal_name : Refusal → List ℕ
refusal_name refusal.Perm = codes "EPERM"
refusal_name refusal.Srch = codes "ESRCH"
refusal_name refusal.Io = codes "EIO"
refusal_name refusal.Child = codes "ECHILD"
refusal_name refusal.Again = codes "EAGAIN"
refusal_name refusal.NoMemory = codes "ENOMEM"
refusal_name refusal.Inval = codes "EINVAL"
refusal_name refusal.Busy = codes "Busy"
refusal_name refusal.NotDue = codes "NotDue"
refusal_name refusal.NotRunning = codes "NotRunning"
refusal_name refusal.Unmodelled = codes "Unmodelled"
refusal_name refusal.ThreadedExec = codes "ThreadedExec"
refusal_name refusal.JournalFull = codes "JournalFull"

-- the page that has the errors of an event
abbrev pub errors_page : Event → List ℕ
errors_page (event.Kill g s) = codes "kill(2), ERRORS"
errors_page (event.Tgkill g id s) = codes "tgkill(2), ERRORS"
errors_page (event.Sigqueue g s v) = codes "sigqueue(3), ERRORS"
errors_page (event.Attach id) = codes "ptrace(2), ERRORS"
errors_page (event.Seize id o) = codes "ptrace(2), ERRORS"
errors_page (event.Interrupt id) = codes "ptrace(2), ERRORS"
errors_page (event.Cont id s) = codes "ptrace(2), ERRORS"
errors_page (event.Listen id) = codes "ptrace(2), ERRORS"
errors_page (event.Detach id s) = codes "ptrace(2), ERRORS"
errors_page (event.SetOptions id o) = codes "ptrace(2), ERRORS"
errors_page (event.EventMessage id) = codes "ptrace(2), ERRORS"
errors_page (event.SignalInfo id) = codes "ptrace(2), ERRORS"
errors_page _ = codes "this model's choice"

-- the page that lets the event meet a full queue; kill(2) has no such error
abbrev pub queue_page : Event → List ℕ
queue_page (event.Kill g s) = codes "this model's choice"
queue_page e = errors_page e

-- the line of a reason why an event is refused
abbrev pub reason_line : Event → Reason → List ℕ
reason_line e (reason.NoThread id) = told (refusal_name (refusal_of (reason.NoThread id))) (codes "there is no thread ") id (codes "") (codes "") (errors_page e)
reason_line e (reason.NoGroup g) = told (refusal_name (refusal_of (reason.NoGroup g))) (codes "there is no group ") g (codes "") (codes "") (errors_page e)
reason_line e (reason.OfAnotherGroup id) = told (refusal_name (refusal_of (reason.OfAnotherGroup id))) (codes "thread ") id (codes "") (codes " is of another group") (errors_page e)
reason_line e (reason.NoSignal s) = told (refusal_name (refusal_of (reason.NoSignal s))) (codes "") s (codes "") (codes " is above 64, the greatest signal") (errors_page e)
reason_line e (reason.QueueFull limit) = told (refusal_name (refusal_of (reason.QueueFull limit))) (codes "as many signals wait as the queue limit says, ") limit (codes "") (codes "") (queue_page e)
reason_line e (reason.NotRunning id) = told (refusal_name (refusal_of (reason.NotRunning id))) (codes "thread ") id (codes "") (codes " doesn't run") (codes "this model's choice")
reason_line e (reason.Pausing id) = told (refusal_name (refusal_of (reason.Pausing id))) (codes "thread ") id (codes "") (codes " waits in pause(2)") (codes "pause(2), DESCRIPTION")
reason_line e (reason.HasMark id) = told (refusal_name (refusal_of (reason.HasMark id))) (codes "thread ") id (codes "") (codes " has a stop to make first") (codes "this model's choice")
reason_line e (reason.MayTake id) = told (refusal_name (refusal_of (reason.MayTake id))) (codes "thread ") id (codes "") (codes " has a pending signal to take first") (codes "signal(7), \"Execution of signal handlers\"")
reason_line e (reason.FixedAction s) = told (refusal_name (refusal_of (reason.FixedAction s))) (codes "the action of signal ") s (named s) (codes " can't be set") (codes "sigaction(2), ERRORS")
reason_line e reason.TableFull = told (refusal_name (refusal_of reason.TableFull)) (codes "the table has its ") 1024 (codes "") (codes " threads") (codes "clone(2), ERRORS")
reason_line e (reason.GroupFull g) = told (refusal_name (refusal_of (reason.GroupFull g))) (codes "group ") g (codes "") (codes " has its 64 threads") (codes "clone(2), ERRORS")
reason_line e (reason.NoGroupStop id) = told (refusal_name (refusal_of (reason.NoGroupStop id))) (codes "no group-stop asks thread ") id (codes "") (codes " to stop") (codes "ptrace(2), \"Group-stop\"")
reason_line e (reason.NoTrap id) = told (refusal_name (refusal_of (reason.NoTrap id))) (codes "neither an interrupt nor a SIGCONT asks thread ") id (codes "") (codes " to stop") (codes "this model's choice")
reason_line e (reason.NotServing id) = told (refusal_name (refusal_of (reason.NotServing id))) (codes "thread ") id (codes "") (codes " neither runs nor listens") (codes "ptrace(2), \"Stopped states\"")
reason_line e (reason.NotLeaving id) = told (refusal_name (refusal_of (reason.NotLeaving id))) (codes "thread ") id (codes "") (codes " isn't about to end") (codes "ptrace(2), \"Death under ptrace\"")
reason_line e (reason.NotExecing id) = told (refusal_name (refusal_of (reason.NotExecing id))) (codes "thread ") id (codes "") (codes " isn't in execve(2)") (codes "ptrace(2), \"execve(2) under ptrace\"")
reason_line e (reason.OthersAlive id) = told (refusal_name (refusal_of (reason.OthersAlive id))) (codes "another thread of the group of thread ") id (codes "") (codes " isn't dead") (codes "ptrace(2), \"execve(2) under ptrace\"")
reason_line e (reason.Traced id) = told (refusal_name (refusal_of (reason.Traced id))) (codes "thread ") id (codes "") (codes " is traced already") (codes "ptrace(2), ERRORS")
reason_line e (reason.Ended id) = told (refusal_name (refusal_of (reason.Ended id))) (codes "thread ") id (codes "") (codes " has ended, or is about to") (codes "ptrace(2), ERRORS")
reason_line e (reason.GroupEnding g) = told (refusal_name (refusal_of (reason.GroupEnding g))) (codes "group ") g (codes "") (codes " is about to end") (codes "ptrace(2), ERRORS")
reason_line e (reason.NotTracee id) = told (refusal_name (refusal_of (reason.NotTracee id))) (codes "thread ") id (codes "") (codes " isn't traced by the actor") (codes "ptrace(2), ERRORS")
reason_line e (reason.TraceeEnded id) = told (refusal_name (refusal_of (reason.TraceeEnded id))) (codes "thread ") id (codes "") (codes " has ended, or is about to") (codes "ptrace(2), ERRORS")
reason_line e (reason.NotStopped id) = told (refusal_name (refusal_of (reason.NotStopped id))) (codes "thread ") id (codes "") (codes " isn't in a ptrace-stop") (codes "ptrace(2), ERRORS")
reason_line e (reason.NotSeized id) = told (refusal_name (refusal_of (reason.NotSeized id))) (codes "thread ") id (codes "") (codes " was attached, and not seized") (codes "ptrace(2), PTRACE_SEIZE")
reason_line e (reason.NoEventStop id) = told (refusal_name (refusal_of (reason.NoEventStop id))) (codes "thread ") id (codes "") (codes " isn't in PTRACE_EVENT_STOP") (codes "this model's choice")
reason_line e (reason.NoRestartSignal s) = told (refusal_name (refusal_of (reason.NoRestartSignal s))) (codes "") s (codes "") (codes " is above 64, the greatest signal") (codes "ptrace(2), ERRORS")
reason_line e (reason.NoMessage id) = told (refusal_name (refusal_of (reason.NoMessage id))) (codes "the ptrace-stop of thread ") id (codes "") (codes " has no message") (codes "this model's choice")
reason_line e (reason.InGroupStop id) = told (refusal_name (refusal_of (reason.InGroupStop id))) (codes "thread ") id (codes "") (codes " is in a group-stop, which holds no signal") (codes "ptrace(2), \"Group-stop\"")
reason_line e (reason.NoDelivery id) = told (refusal_name (refusal_of (reason.NoDelivery id))) (codes "thread ") id (codes "") (codes " isn't in a signal-delivery-stop") (codes "this model's choice")
reason_line e (reason.NoTracee a) = told (refusal_name (refusal_of (reason.NoTracee a))) (codes "actor ") a (codes "") (codes " traces no thread that the wait asks for") (codes "waitpid(2), ERRORS")
reason_line e (reason.NotStarter a) = told (refusal_name (refusal_of (reason.NotStarter a))) (codes "actor ") a (codes "") (codes " isn't the starter, actor 1") (codes "waitpid(2), ERRORS")
reason_line e reason.NoChild = told (refusal_name (refusal_of reason.NoChild)) (codes "the starter, actor ") 1 (codes "") (codes ", has no group that the wait asks for") (codes "waitpid(2), ERRORS")

-- a journal that takes no more
abbrev pub full_line : ℕ → List ℕ
full_line entries = told (codes "JournalFull") (codes "the journal has its ") entries (codes "") (codes " entries") (codes "this model's choice")

-- Answers without an entry

-- what an event that makes no entry finds
abbrev pub quiet_line : ℕ → Event → List ℕ
quiet_line a (event.Kill g s) = told (codes "exists") (codes "signal ") 0 (codes "") (codes " only asks whether the target is there") (codes "kill(2), DESCRIPTION")
quiet_line a (event.Tgkill g id s) = told (codes "exists") (codes "signal ") 0 (codes "") (codes " only asks whether the target is there") (codes "kill(2), DESCRIPTION")
quiet_line a (event.Sigqueue g s v) = told (codes "exists") (codes "signal ") 0 (codes "") (codes " only asks whether the target is there") (codes "sigqueue(3), DESCRIPTION")
quiet_line a (event.Take id) = told (codes "nothing") (codes "no signal waits that thread ") id (codes "") (codes " may take") (codes "signal(7), \"Signal mask and pending signals\"")
quiet_line a (event.TakeAny g) = told (codes "nothing") (codes "no thread of group ") g (codes "") (codes " may take what waits") (codes "signal(7), \"Signal mask and pending signals\"")
quiet_line a (event.EventMessage id) = told (codes "message") (codes "it is that of the ptrace-stop of thread ") id (codes "") (codes "") (codes "ptrace(2), PTRACE_GETEVENTMSG")
quiet_line a (event.SignalInfo id) = told (codes "info") (codes "it is of the signal that the stop of thread ") id (codes "") (codes " holds") (codes "ptrace(2), PTRACE_GETSIGINFO")
quiet_line a event.TracerExit = told (codes "nothing") (codes "actor ") a (codes "") (codes " traces no thread") (codes "ptrace(2), \"Attaching and detaching\"")
quiet_line a (event.Wait which) = told (codes "nothing") (codes "no thread that actor ") a (codes "") (codes " traces and asks for has a report") (codes "waitpid(2), WNOHANG")
quiet_line a (event.StarterWait which flags) = told (codes "nothing") (codes "no group that actor ") a (codes "") (codes " asks for has a report") (codes "waitpid(2), WNOHANG")
quiet_line a _ = []

-- Stops

-- the ptrace-stop that a thread is in
abbrev pub ptrace_stop_line : ℕ → Stop → List ℕ
ptrace_stop_line id (stop.Signal i came) = told (codes "reported") (codes "signal ") i.sig (named i.sig) (codes " waits at the tracer") (codes "ptrace(2), \"Signal-delivery-stop\"")
ptrace_stop_line id (stop.Group s) = told (codes "stopped") (codes "the tracer is told of the group-stop by signal ") s (named s) (codes "") (codes "ptrace(2), \"Group-stop\"")
ptrace_stop_line id (stop.Clone n) = told (codes "stopped") (codes "PTRACE_EVENT_CLONE, with the new thread ") n (codes "") (codes "") (codes "ptrace(2), \"PTRACE_EVENT stops\"")
ptrace_stop_line id (stop.Exec n) = told (codes "stopped") (codes "PTRACE_EVENT_EXEC, with the former id ") n (codes "") (codes "") (codes "ptrace(2), \"PTRACE_EVENT stops\"")
ptrace_stop_line id (stop.Exit w) = told (codes "stopped") (codes "PTRACE_EVENT_EXIT of thread ") id (codes "") (codes "") (codes "ptrace(2), \"PTRACE_EVENT stops\"")
ptrace_stop_line id (stop.Event x) = told (codes "stopped") (codes "PTRACE_EVENT_STOP by signal ") (stop_number x) (named (stop_number x)) (codes "") (codes "ptrace(2), \"PTRACE_EVENT stops\"")

-- the stop that a thread is in, if any
abbrev pub stop_line : ℕ → Life → List ℕ
stop_line id (life.InStop s) = ptrace_stop_line id s
stop_line id life.Stopped = told (codes "stopped") (codes "thread ") id (codes "") (codes " stops with its group") (codes "ptrace(2), \"Group-stop\"")
stop_line id _ = []

-- where there is such a thread
abbrev pub thread_line : Option Thread → List ℕ
thread_line None = []
thread_line (Some t) = stop_line t.id t.life
