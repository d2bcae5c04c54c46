-- What is read off a thread's record, and where a change applies.
use Rattle.std.specs.Prelude.{ℕ, ◌==◌, Bool, false, not, ◌&&◌, ◌||◌, Option, Some, None, if◌then◌else◌, is_some}
use Rattle.tr_tracee.specs.declared.thread.Options.{Options}
use Rattle.tr_tracee.specs.declared.thread.Thread.{Thread}
use Rattle.tr_tracee.specs.declared.thread.Trace.{Trace}
use Rattle.tr_tracee.specs.Lives.{is_free}

-- the thread group leader, whose id is the group's
abbrev pub is_leader : Thread → Bool
is_leader t = t.id == t.group

-- it belongs to the thread group
abbrev pub in_group : ℕ → Thread → Bool
in_group g t = t.group == g

-- somebody traces it
abbrev pub is_traced : Thread → Bool
is_traced t = is_some t.trace

-- the trace is the actor's
abbrev pub traces : ℕ → Option Trace → Bool
traces a None = false
traces a (Some r) = r.tracer == a

-- it is a tracee of the actor
abbrev pub is_tracee_of : ℕ → Thread → Bool
is_tracee_of a t = traces a t.trace

-- the actor that traces
abbrev pub tracer_of : Option Trace → Option ℕ
tracer_of None = None
tracer_of (Some r) = Some r.tracer

-- traced by PTRACE_SEIZE
abbrev pub seized : Option Trace → Bool
seized None = false
seized (Some r) = r.seized

-- those of a thread that nobody traces
abbrev pub no_options : Options
no_options = record { clone = false; exec = false; exit = false; exitkill = false }

-- the PTRACE_O_ options of a trace
abbrev pub options_of : Option Trace → Options
options_of None = no_options
options_of (Some r) = r.options

-- something is to be served before it goes on: a stop, a trap, or a note of a SIGCONT
abbrev pub has_mark : Thread → Bool
has_mark t = t.stop_mark || t.trap_mark || t.note_mark

-- it may take a signal: it runs or pauses, and no mark has to be served first
abbrev pub is_ready_to_take : Thread → Bool
is_ready_to_take t = is_free t.life && not (has_mark t)

-- f at the thread with the id
abbrev pub at_thread : ℕ → (Thread → Thread) → Thread → Thread
at_thread id f t = if t.id == id then f t else t

-- f at each thread of the group
abbrev pub at_group : ℕ → (Thread → Thread) → Thread → Thread
at_group g f t = if t.group == g then f t else t
