-- A step: which choices the table admits, and what table and entry lead to.
use Rattle.std.specs.Prelude.{◌≡◌, ℕ, ◌+◌, pos, negsuc, List, [], ◌∷◌, Bool, true, false, not, ◌&&◌, ◌||◌, ◌==◌, nat_le, Option, Some, None, if◌then◌else◌, is_some, IsTrue}
use Rattle.tr_pending.specs.declared.instance.Instance.{Instance}
use Rattle.tr_wait.specs.Words.{word}
use Rattle.tr_tracee.specs.declared.thread.Report.{Report}
use Rattle.tr_tracee.specs.declared.thread.Thread.{Thread}
use Rattle.tr_tracee.specs.Marks.{masked, paused}
use Rattle.tr_tracee.specs.Stops.{interrupted, set_options}
use Rattle.tr_tracee.specs.Threads.{at_thread}
use Rattle.tr_model.specs.Choices.{Choice, no_choice, takes_instance, takes_by, gives_report, gives_id}
use Rattle.tr_model.specs.Entries.{Entry}
use Rattle.tr_model.specs.declared.events.Event.{Event}
use Rattle.tr_model.specs.declared.events.Event.TheVariants as event
use Rattle.tr_model.specs.declared.fates.Ending.{Ending}
use Rattle.tr_model.specs.declared.fates.Fate.{Fate}
use Rattle.tr_model.specs.declared.fates.Fate.TheVariants.{Pending}
use Rattle.tr_model.specs.declared.replies.Reply.{Reply}
use Rattle.tr_model.specs.declared.replies.Reply.TheVariants as reply
use Rattle.tr_model.specs.declared.rows.Group.{Group}
use Rattle.tr_model.specs.declared.rows.Target.TheVariants as target
use Rattle.tr_model.specs.Causes.{cause_of, is_in, quiet_of}
use Rattle.tr_model.specs.Ends
use Rattle.tr_model.specs.Clones
use Rattle.tr_model.specs.Execs
use Rattle.tr_model.specs.GroupStops.{complete_group_stops}
use Rattle.tr_model.specs.Restarts
use Rattle.tr_model.specs.Tracers
use Rattle.tr_model.specs.Tracing
use Rattle.tr_model.specs.Sends
use Rattle.tr_model.specs.Sends.{info}
use Rattle.tr_model.specs.Stops
use Rattle.tr_model.specs.Tables.{Table, group_of, thread_of}
use Rattle.tr_model.specs.Takes
use Rattle.tr_model.specs.Takes.{choices, with_number}
use Rattle.tr_model.specs.StarterWaits
use Rattle.tr_model.specs.Waits
use Rattle.tr_model.specs.StarterWaits.{ready_death, ready_note}
use Rattle.tr_model.specs.Waits.{ready_thread}
use Rattle.tr_model.specs.Moves.{Work, alter, at, begin, instance_in, on_thread}

-- Free choices

-- the thread is in the table and can take the instance with this number
abbrev pub takes : Table → Option Thread → ℕ → Bool
takes T None n = false
takes T (Some t) n = is_some (with_number n (choices T t))

-- an id from 2 to 4,194,303 that is no thread's and no group's
abbrev pub is_new : Table → ℕ → Bool
is_new T id = nat_le 2 id && (nat_le id 4194303 && (not (is_some (thread_of T id)) && not (is_some (group_of T id))))

-- the choices that an event may have
abbrev pub Admits : Table → ℕ → Event → Choice → Type 0
Admits T a (event.Take id) c = (n : ℕ) × (c ≡ takes_instance n) × IsTrue (takes T (thread_of T id) n)
Admits T a (event.TakeAny g) c = (id : ℕ) × (n : ℕ) × (c ≡ takes_by id n) × IsTrue (is_in g (thread_of T id)) × IsTrue (takes T (thread_of T id) n)
Admits T a (event.Wait which) c = (r : ℕ) × (c ≡ gives_report r) × IsTrue (is_some (ready_thread T a which r))
Admits T a (event.StarterWait which flags) c = (r : ℕ) × (c ≡ gives_report r) × IsTrue (is_some (ready_death T which r) || is_some (ready_note T which flags r))
Admits T a (event.CloneThread id) c = (new : ℕ) × (c ≡ gives_id new) × IsTrue (is_new T new)
Admits T a _ c = c ≡ no_choice

-- What an entry does

-- what was chosen, 0 where the choice has no such number
abbrev pub number : Option ℕ → ℕ
number None = 0
number (Some n) = n

-- si_code: SI_USER by kill(2), SI_TKILL by tgkill(2), SI_QUEUE by sigqueue(3)
abbrev pub work_of_event : ℕ → Event → Choice → Work → Work
work_of_event a (event.Kill g s) c w = Sends.send s (info (pos 0) a (pos 0)) (target.Group g) w
work_of_event a (event.Tgkill g id s) c w = Sends.send s (info (negsuc 5) a (pos 0)) (target.Thread id) w
work_of_event a (event.Sigqueue g s v) c w = Sends.send s (info (negsuc 0) a v) (target.Group g) w
work_of_event a (event.Mask id set) c w = alter (at_thread id (masked set)) w
work_of_event a (event.SetAction id s how) c w = at id (Sends.set_action s how) w
work_of_event a (event.Pause id) c w = alter (at_thread id (paused true)) w
work_of_event a (event.Take id) c w = at id (Takes.take_numbered (number c.instance)) w
work_of_event a (event.TakeAny g) c w = at (number c.thread) (Takes.take_numbered (number c.instance)) w
work_of_event a (event.Halt id) c w = at id Stops.halt w
work_of_event a (event.Trap id) c w = at id Stops.trap w
work_of_event a (event.Die id) c w = at id (λ t. Ends.die t t.life) w
work_of_event a (event.CloneThread id) c w = at id (λ t. Clones.clone t (number c.new_id)) w
work_of_event a (event.Exec id) c w = at id Execs.exec w
work_of_event a (event.Finish id) c w = at id Execs.finish w
work_of_event a (event.Exit id code) c w = at id (λ t. Ends.exit t code) w
work_of_event a (event.ExitGroup id code) c w = at id (Ends.exit_group code) w
work_of_event a (event.Attach id) c w = at id (Tracing.attach a) w
work_of_event a (event.Seize id o) c w = at id (Tracing.seize a o) w
work_of_event a (event.Interrupt id) c w = alter (at_thread id interrupted) w
work_of_event a (event.Cont id s) c w = at id (Restarts.restart s) w
work_of_event a (event.Listen id) c w = at id Restarts.listen w
work_of_event a (event.Detach id s) c w = at id (Restarts.detach s) w
work_of_event a (event.SetOptions id o) c w = alter (at_thread id (set_options o)) w
work_of_event a (event.EventMessage id) c w = w
work_of_event a (event.SignalInfo id) c w = w
work_of_event a event.TracerExit c w = Tracers.tracer_exit a w
work_of_event a (event.Wait which) c w = on_thread (ready_thread w.table a which (number c.report)) Waits.consume w
work_of_event a (event.StarterWait which flags) c w = StarterWaits.starter_takes (ready_death w.table which (number c.report)) (ready_note w.table which flags (number c.report)) w

-- all that an entry does to a table
abbrev pub work_of : Table → Entry → Work
work_of T e = complete_group_stops (work_of_event e.actor e.event e.choice (begin T))

-- Replies, by the table before and the work done

-- the fate of the number by what the step ended; what it didn't end is pending
abbrev pub fate_in : List Ending → ℕ → Fate
fate_in [] n = Pending
fate_in (e ∷ es) n = if e.number == n then e.fate else fate_in es n

-- the first signal that the entry accepted, and its fate right after the step
abbrev pub sent : Table → Work → Reply
sent T w = reply.Sent (fate_in w.ended (T.accepted + 1)) (T.accepted + 1)

-- which thread took which instance, and what it did with it
abbrev pub took_reply : Table → Option Thread → Option Instance → Reply
took_reply T None i = reply.Nothing
took_reply T (Some t) None = reply.Nothing
took_reply T (Some t) (Some i) = reply.Took (Takes.did_at_take T t i) t.id i

-- the id that a wait names, its wait status as a word, and the number of the report
abbrev pub waited : ℕ → Option Report → Reply
waited id None = reply.Nothing
waited id (Some r) = reply.Waited id (word r.status) r.number

-- the starter's wait for a note names the group
abbrev pub waited_note : Option Group → Reply
waited_note None = reply.Nothing
waited_note (Some g) = waited g.tgid g.note

-- a wait tells of the thread whose report it gives, else of the group whose note it gives
abbrev pub waited_thread : Option Thread → Option Group → Reply
waited_thread (Some t) g = waited t.id t.report
waited_thread None g = waited_note g

-- a send, an attach, a take, a clone and a wait tell what came of them; any other entry is Done
abbrev pub reply_of : Table → ℕ → Event → Choice → Work → Reply
reply_of T a (event.Kill g s) c w = sent T w
reply_of T a (event.Tgkill g id s) c w = sent T w
reply_of T a (event.Sigqueue g s v) c w = sent T w
reply_of T a (event.Attach id) c w = sent T w
reply_of T a (event.Take id) c w = took_reply T (thread_of T id) (instance_in T.waiting (number c.instance))
reply_of T a (event.TakeAny g) c w = took_reply T (thread_of T (number c.thread)) (instance_in T.waiting (number c.instance))
reply_of T a (event.CloneThread id) c w = reply.Cloned (number c.new_id)
reply_of T a (event.Wait which) c w = waited_thread (ready_thread T a which (number c.report)) None
reply_of T a (event.StarterWait which flags) c w = waited_thread (ready_death T which (number c.report)) (ready_note T which flags (number c.report))
reply_of T a _ c w = reply.Done

-- The step relation

-- what an entry leads to: the reply, and the work with the next table and the log
pub record Outcome : Type 0 where
  pub reply : Reply
  pub work : Work

-- the reply to an entry and the work that it does, both determined by table and entry
abbrev pub after : Table → Entry → Outcome
after T e = let w = work_of T e in record { reply = reply_of T e.actor e.event e.choice w; work = w }

-- Not refused, not quiet, an admitted choice: then reply and table follow.
pub record Step (T : Table) (e : Entry) (r : Reply) (U : Table) : Type 0 where
  pub not_refused : cause_of T e.actor e.event ≡ None
  pub not_quiet : quiet_of T e.actor e.event ≡ None
  pub choice : Admits T e.actor e.event e.choice
  pub reply : r ≡ (after T e).reply
  pub table : U ≡ (after T e).work.table
