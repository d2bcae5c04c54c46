-- What each entry leaves in the notes beside the journal, from which the laws answer: the kernel's invariant cites these,
-- and no public contract.
use Rattle.std.specs.Prelude.{◌≡◌, ℕ, ◌+◌, ◌==◌, List, [], ◌∷◌, ◌++◌, length, Bool, true, false, Option, Some, None, if◌then◌else◌}
use Rattle.tr_wait.specs.declared.status.Status.{Status}
use Rattle.tr_wait.specs.declared.status.Status.TheVariants as status
use Rattle.tr_tracee.specs.declared.thread.Report.{Report}
use Rattle.tr_tracee.specs.declared.thread.Thread.{Thread}
use Rattle.tr_model.specs.Choices.{Choice}
use Rattle.tr_model.specs.Entries.{Entry}
use Rattle.tr_model.specs.declared.events.Event.{Event}
use Rattle.tr_model.specs.declared.events.Event.TheVariants as event
use Rattle.tr_model.specs.declared.rows.Target.{Target}
use Rattle.tr_model.specs.declared.rows.Target.TheVariants as target
use Rattle.tr_model.specs.Journals.{Taken, occurs, renamed_by, taken_of}
use Rattle.tr_model.specs.Steps.{number, work_of}
use Rattle.tr_model.specs.Tables.{Table, thread_of}
use Rattle.tr_model.specs.Waits.{ready_thread}
use Rattle.tr_kernel.specs.declared.notes.EntryFact.{EntryFact}
use Rattle.tr_kernel.specs.declared.notes.EntryFact.TheVariants.{Nothing, Stop, Take, Exec}
use Rattle.tr_kernel.specs.declared.notes.Note.{Note}
use Rattle.tr_kernel.specs.declared.notes.IdTransfer.{IdTransfer}

-- Waits

-- the status of a ptrace-stop
abbrev pub is_stop_status : Status → Bool
is_stop_status (status.Exited code) = false
is_stop_status (status.Killed signal) = false
is_stop_status status.Continued = false
is_stop_status _ = true

-- a report is of a ptrace-stop
abbrev pub shows_stop : Option Report → Bool
shows_stop None = false
shows_stop (Some r) = is_stop_status r.status

-- the fact of a tracer's wait for this thread
abbrev pub stop_fact : Option Thread → EntryFact
stop_fact None = Nothing
stop_fact (Some t) = if shows_stop t.report then Stop (record { thread = t.id; group = t.group }) else Nothing

-- Execve

-- the fact of an execve(2) by this thread
abbrev pub exec_fact : Option Thread → EntryFact
exec_fact None = Nothing
exec_fact (Some t) = Exec t.group

-- Takes

-- how often the id of the queue's thread has passed on
abbrev pub transfers_of : List ℕ → Target → ℕ
transfers_of ids (target.Thread id) = occurs id ids
transfers_of ids (target.Group g) = 0

-- the fact of a take of this, after these ids have passed on
abbrev pub take_fact : List ℕ → Option Taken → EntryFact
take_fact ids None = Nothing
take_fact ids (Some k) = Take (record { number = k.number; signal = k.signal; queue = k.queue; transfers = transfers_of ids k.queue })

-- Facts and notes

-- what an entry is to the laws, after these ids have passed on
abbrev pub fact_of : List ℕ → Table → ℕ → Event → Choice → EntryFact
fact_of ids T a (event.Wait which) c = stop_fact (ready_thread T a which (number c.report))
fact_of ids T a (event.Take id) c = take_fact ids (taken_of T (event.Take id) c)
fact_of ids T a (event.TakeAny g) c = take_fact ids (taken_of T (event.TakeAny g) c)
fact_of ids T a (event.Exec id) c = exec_fact (thread_of T id)
fact_of ids T a _ c = Nothing

-- there is a group among these
abbrev pub is_some_group : List ℕ → Bool
is_some_group [] = false
is_some_group (g ∷ gs) = true

-- the note of an entry, after so many deaths of groups
abbrev pub note_of : List ℕ → ℕ → Table → Entry → Note
note_of ids deaths T e =
    let w = work_of T e in
    record { fact = fact_of ids T e.actor e.event e.choice; killed = is_some_group w.killed; deaths = deaths + length w.dying }

-- the notes of these entries, after these ids have passed on and so many deaths
abbrev pub notes_from : List ℕ → ℕ → Table → List Entry → List Note
notes_from ids deaths T [] = []
notes_from ids deaths T (e ∷ es) =
    let w = work_of T e in
    note_of ids deaths T e ∷ notes_from (ids ++ w.renamed) (deaths + length w.dying) w.table es

-- the notes of a journal, from its first table on
abbrev pub notes_of : Table → List Entry → List Note
notes_of T es = notes_from [] 0 T es

-- the groups whose death began, in order
abbrev pub dying_by : Table → List Entry → List ℕ
dying_by T [] = []
dying_by T (e ∷ es) = let w = work_of T e in w.dying ++ dying_by w.table es

-- how often an id has passed on, by a list of such ids with their counts
abbrev pub times : ℕ → List IdTransfer → ℕ
times id [] = 0
times id (p ∷ ps) = if p.id == id then p.times else times id ps

-- The notes of a journal: one of each entry, all groups whose death began, and how often each id has passed on.
pub record IsNoted (T : Table) (es : List Entry) (ns : List Note) (gs : List ℕ) (ps : List IdTransfer) : Type 0 where
  pub notes : ns ≡ notes_of T es
  pub dying : gs ≡ dying_by T es
  pub transfers : (id : ℕ) → times id ps ≡ occurs id (renamed_by T es)
