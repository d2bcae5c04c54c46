-- What private functions answer, by the fates and notes that they keep: no public contract cites these.
use Rattle.std.specs.Prelude.{◌≡◌, ℕ, ◌+◌, ◌-◌, ◌<◌, ◌≤◌, ◌==◌, ◌&&◌, ◌||◌, zero, suc, List, [], ◌∷◌, ◌++◌, Bool, true, false, is_some, not, Option, Some, None, Ok, length, slice_get, take, drop, filter, replicate, if◌then◌else◌}
use Rattle.std.specs.List.{list_any}
use Rattle.tr_model.specs.Choices.{Choice}
use Rattle.tr_model.specs.Entries.{Entry}
use Rattle.tr_model.specs.declared.events.Event.{Event}
use Rattle.tr_model.specs.declared.events.Event.TheVariants as event
use Rattle.tr_model.specs.declared.fates.Ending.{Ending}
use Rattle.tr_model.specs.declared.fates.Fate.{Fate}
use Rattle.tr_model.specs.declared.fates.Fate.TheVariants.{Pending, Merged, Delivered, Suppressed, Flushed}
use Rattle.tr_model.specs.declared.fates.Totals.{Totals}
use Rattle.tr_model.specs.declared.replies.Reply.{Reply}
use Rattle.tr_model.specs.declared.replies.Reply.TheVariants as reply
use Rattle.tr_model.specs.declared.rows.Target.{Target}
use Rattle.tr_model.specs.declared.rows.Target.TheVariants as target
use Rattle.tr_model.specs.Journals.{occurs, queue_of, same_fate, taken}
use Rattle.tr_model.specs.declared.checked.Checked.TheVariants.{Due}
use Rattle.tr_model.specs.Moves.{Work, instance_in}
use Rattle.tr_model.specs.Preferred.{check}
use Rattle.tr_model.specs.Causes.{is_in}
use Rattle.tr_model.specs.StarterWaits.{ready_death, ready_note}
use Rattle.tr_model.specs.Steps.{after, is_new, number, takes, took_reply, waited_thread, work_of}
use Rattle.tr_model.specs.Tables.{Table, thread_of}
use Rattle.tr_model.specs.Waits.{ready_thread}
use Rattle.tr_kernel.specs.declared.fates.EndedCounts.{EndedCounts}
use Rattle.tr_kernel.specs.declared.notes.EntryFact.{EntryFact}
use Rattle.tr_kernel.specs.declared.notes.EntryFact.TheVariants.{Nothing, Stop, Take, Exec}
use Rattle.tr_kernel.specs.declared.notes.FactBefore.{FactBefore}
use Rattle.tr_kernel.specs.declared.notes.FactBefore.TheVariants as before
use Rattle.tr_kernel.specs.declared.notes.Note.{Note}
use Rattle.tr_kernel.specs.declared.notes.IdTransfer.{IdTransfer}
use Rattle.tr_kernel.specs.declared.notes.Noticed.{Noticed}
use Rattle.tr_kernel.specs.declared.notes.Origin.{Origin}
use Rattle.tr_kernel.specs.declared.notes.Stopped.{Stopped}
use Rattle.tr_kernel.specs.declared.notes.TakenFrom.{TakenFrom}
use Rattle.tr_kernel.specs.Laws.{RestartsAt}
use Rattle.tr_kernel.specs.Notes.{exec_fact, is_some_group, stop_fact, times}
use Rattle.tr_kernel.specs.Positions.{entry_at}

-- Entries

-- what an actor asked for, with this choice
abbrev pub entry_with : ℕ → Event → Choice → Entry
entry_with a e c = record { actor = a; event = e; choice = c }

-- an event that leaves nothing open is due as a check says
abbrev pub IsFixed : Table → ℕ → Event → Choice → Type 0
IsFixed T a (event.Take id) c = Unit {0}
IsFixed T a (event.TakeAny g) c = Unit {0}
IsFixed T a (event.Wait which) c = Unit {0}
IsFixed T a (event.StarterWait which flags) c = Unit {0}
IsFixed T a (event.CloneThread id) c = Unit {0}
IsFixed T a e c = check T a e ≡ Ok (Due c)

-- an event that is seldom made: what makes it isn't inlined
abbrev pub IsRare : Event → Type 0
IsRare (event.Kill g s) = ⊥
IsRare (event.Sigqueue g s v) = ⊥
IsRare (event.Mask id set) = ⊥
IsRare (event.Take id) = ⊥
IsRare (event.TakeAny g) = ⊥
IsRare (event.Halt id) = ⊥
IsRare (event.Trap id) = ⊥
IsRare (event.Cont id s) = ⊥
IsRare (event.Wait which) = ⊥
IsRare _ = Unit {0}

-- Fates

-- how many of the fates are this one
abbrev pub count_of : Fate → List Fate → ℕ
count_of f fs = length (filter (same_fate f) fs)

-- how many numbers have each fate
abbrev pub tally : List Fate → ℕ → Totals
tally fs accepted = record {
  accepted = accepted;
  pending = count_of Pending fs;
  merged = count_of Merged fs;
  delivered = count_of Delivered fs;
  suppressed = count_of Suppressed fs;
  flushed = count_of Flushed fs;
}

-- how many have ended, by their fates
abbrev pub counts_of : List Fate → EndedCounts
counts_of fs = record {
  merged = count_of Merged fs;
  delivered = count_of Delivered fs;
  suppressed = count_of Suppressed fs;
  flushed = count_of Flushed fs;
}

-- a number that was pending is counted under its fate
abbrev pub counted_under : Fate → EndedCounts → EndedCounts
counted_under Pending n = n
counted_under Merged n = record n { merged = n.merged + 1 }
counted_under Delivered n = record n { delivered = n.delivered + 1 }
counted_under Suppressed n = record n { suppressed = n.suppressed + 1 }
counted_under Flushed n = record n { flushed = n.flushed + 1 }

-- what has ended stays so
abbrev pub first_of : Fate → Fate → Fate
first_of f g = if same_fate Pending f then g else f

-- an ending written down, among the fates from number n on
abbrev pub ending_noted : ℕ → Ending → List Fate → List Fate
ending_noted n x [] = []
ending_noted n x (f ∷ fs) = (if x.number == n then first_of f x.fate else f) ∷ ending_noted (suc n) x fs

-- endings written down, one after the other
abbrev pub endings_noted : List Ending → List Fate → List Fate
endings_noted [] fs = fs
endings_noted (x ∷ xs) fs = endings_noted xs (ending_noted 1 x fs)

-- the fates after an entry: those that it accepted are open, then what it ended is written down
abbrev pub fates_after : List Fate → Work → List Fate
fates_after fs w = endings_noted w.ended (fs ++ replicate (w.table.accepted - length fs) Pending)

-- Ids that pass on

-- each id has passed on as often as before, and these once more
pub record AreTransferred (ids : List ℕ) (old new : List IdTransfer) : Type 0 where
  pub counts : (n : ℕ) → times n new ≡ times n old + occurs n ids

-- how often the id of the queue's thread has passed on
abbrev pub transfers_in : List IdTransfer → Target → ℕ
transfers_in ps (target.Thread id) = times id ps
transfers_in ps (target.Group g) = 0

-- The note of an entry

-- its fact, as far as the table before it shows
abbrev pub fact_before : Table → ℕ → Event → Choice → EntryFact
fact_before T a (event.Wait which) c = stop_fact (ready_thread T a which (number c.report))
fact_before T a (event.Exec id) c = exec_fact (thread_of T id)
fact_before T a _ c = Nothing

-- what this says of an entry
abbrev pub shown : FactBefore → EntryFact
shown before.Nothing = Nothing
shown (before.Stop s) = Stop s
shown (before.Exec g) = Exec g

-- the queue that it took from, and how often the id of its thread has passed on
abbrev pub origin_of : List IdTransfer → Option Target → Option Origin
origin_of ps None = None
origin_of ps (Some q) = Some (record { queue = q; transfers = transfers_in ps q })

-- its fact after the step, by what it took from and its reply
abbrev pub fact_with : EntryFact → Option Origin → Reply → EntryFact
fact_with m None r = m
fact_with m (Some o) (reply.Took did id i) = Take (record { number = i.n; signal = i.sig; queue = o.queue; transfers = o.transfers })
fact_with m (Some o) _ = m

-- by the queue that it took from and its reply
abbrev pub fact_after : EntryFact → Option Target → List IdTransfer → Reply → EntryFact
fact_after m q ps r = fact_with m (origin_of ps q) r

-- the reply of a wait for a stop tells the thread that stopped
abbrev pub IsOfStop : EntryFact → Reply → Type 0
IsOfStop (Stop s) (reply.Waited id word r) = id ≡ s.thread
IsOfStop _ _ = Unit {0}

-- the note of an entry with this reply, of which this is noticed
abbrev pub note_noticed : Noticed → Reply → Note
note_noticed n r = record { fact = fact_with (shown n.before) n.origin r; killed = n.killed; deaths = n.deaths }

-- the note of an entry that did this work, after so many deaths of groups
abbrev pub note_with : EntryFact → ℕ → Work → Note
note_with f deaths w = record { fact = f; killed = is_some_group w.killed; deaths = deaths + length w.dying }

-- the note, after so many deaths of groups
abbrev pub noted : List IdTransfer → ℕ → Table → Entry → Note
noted ps deaths T e =
    note_with (fact_after (fact_before T e.actor e.event e.choice) (queue_of (taken T e)) ps (after T e).reply) deaths (work_of T e)

-- What the notes say at a position

-- the fact in a note, if there is one
abbrev pub fact_in : Option Note → EntryFact
fact_in None = Nothing
fact_in (Some n) = n.fact

-- whether the note is of an entry that delivered a KILL
abbrev pub killed_in : Option Note → Bool
killed_in None = false
killed_in (Some n) = n.killed

-- the fact at a position, from 1
abbrev pub fact_at : List Note → ℕ → EntryFact
fact_at ns zero = Nothing
fact_at ns (suc p) = fact_in (slice_get ns p)

-- Deaths of groups

-- how many had begun after the entry of the note
abbrev pub deaths_in : Option Note → ℕ
deaths_in None = 0
deaths_in (Some n) = n.deaths

-- how many had begun after so many entries
abbrev pub deaths_to : List Note → ℕ → ℕ
deaths_to ns zero = 0
deaths_to ns (suc p) = deaths_in (slice_get ns p)

-- they grow along the notes, up to so many
abbrev pub AreOrdered : List Note → ℕ → Type 0
AreOrdered ns most = (p : ℕ) → p < length ns → (deaths_to ns p ≤ deaths_to ns (suc p)) × (deaths_to ns (suc p) ≤ most)

-- the groups whose death the entry at a place began, of all whose death began
abbrev pub dying_at : List Note → List ℕ → ℕ → List ℕ
dying_at ns dying p = take (deaths_to ns (suc p) - deaths_to ns p) (drop (deaths_to ns p) dying)

-- Restarts

-- it is an exec of a thread of the group
abbrev pub is_exec_in : ℕ → EntryFact → Bool
is_exec_in g (Exec h) = h == g
is_exec_in g _ = false

-- a restart of the thread, the end of tracer a, or an exec of another thread of its group
abbrev pub is_restart : Stopped → ℕ → ℕ → Event → EntryFact → Bool
is_restart s a b (event.Cont x sig) m = x == s.thread
is_restart s a b (event.Listen x) m = x == s.thread
is_restart s a b (event.Detach x sig) m = x == s.thread
is_restart s a b event.TracerExit m = b == a
is_restart s a b (event.Exec x) m = not (x == s.thread) && is_exec_in s.group m
is_restart s a b _ m = false

-- an entry with its note restarts the thread, or the thread's group is among these, whose death it began
abbrev pub restarts_here : Stopped → ℕ → Option Entry → Option Note → List ℕ → Bool
restarts_here s a (Some e) (Some n) gs = is_restart s a e.actor e.event n.fact || list_any (λ g. g == s.group) gs
restarts_here s a _ _ gs = false

-- the entry at a place restarts the thread or begins the death of its group
abbrev pub restarts_at : Stopped → ℕ → List Entry → List Note → List ℕ → ℕ → Bool
restarts_at s a es ns dying p = restarts_here s a (slice_get es p) (slice_get ns p) (dying_at ns dying p)

-- the entry at k lies between two positions and restarts the thread whose stop the first consumed
pub record IsRestartAt (T : Table) (es : List Entry) (i j : ℕ) (s : Stopped) (k : ℕ) : Type 0 where
  pub later : i < k
  pub earlier : k < j
  pub restarts : (e : Entry) → entry_at es i ≡ Some e → RestartsAt T es k s.thread e.actor s.group

-- Takes

-- two takes of one signal from one queue, whose id had passed on equally often
pub record SameQueue (k l : TakenFrom) : Type 0 where
  pub signal : k.signal ≡ l.signal
  pub queue : k.queue ≡ l.queue
  pub transfers : k.transfers ≡ l.transfers

-- Replies of another system

-- whether the model admits the choice that a reply tells
abbrev pub admits_told : Table → ℕ → Event → Reply → Bool
admits_told T a (event.Take id) (reply.Took did t i) = takes T (thread_of T id) i.n
admits_told T a (event.Take id) _ = false
admits_told T a (event.TakeAny g) (reply.Took did t i) = is_in g (thread_of T t) && takes T (thread_of T t) i.n
admits_told T a (event.TakeAny g) _ = false
admits_told T a (event.Wait which) (reply.Waited id word r) = is_some (ready_thread T a which r)
admits_told T a (event.Wait which) _ = false
admits_told T a (event.StarterWait which flags) (reply.Waited id word r) = is_some (ready_death T which r) || is_some (ready_note T which flags r)
admits_told T a (event.StarterWait which flags) _ = false
admits_told T a (event.CloneThread id) (reply.Cloned new) = is_new T new
admits_told T a (event.CloneThread id) _ = false
admits_told T a _ _ = true

-- the reply of an event that sends nothing, by its choice; of a send and of an attach nothing is said
abbrev pub reply_without_send : Table → ℕ → Event → Choice → Reply
reply_without_send T a (event.Take id) c = took_reply T (thread_of T id) (instance_in T.waiting (number c.instance))
reply_without_send T a (event.TakeAny g) c = took_reply T (thread_of T (number c.thread)) (instance_in T.waiting (number c.instance))
reply_without_send T a (event.CloneThread id) c = reply.Cloned (number c.new_id)
reply_without_send T a (event.Wait which) c = waited_thread (ready_thread T a which (number c.report)) None
reply_without_send T a (event.StarterWait which flags) c = waited_thread (ready_death T which (number c.report)) (ready_note T which flags (number c.report))
reply_without_send T a _ c = reply.Done
