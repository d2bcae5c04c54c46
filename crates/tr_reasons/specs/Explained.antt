-- What is told of a call: its line, and why it was answered so.
use Rattle.std.specs.Prelude.{ℕ, List, [], ◌∷◌, ◌++◌, Option, Some, None, option_and_then}
use Rattle.tr_tracee.specs.declared.thread.Thread.{Thread}
use Rattle.tr_model.specs.declared.events.Event.{Event}
use Rattle.tr_model.specs.declared.events.Event.TheVariants as event
use Rattle.tr_model.specs.declared.replies.Reply.{Reply}
use Rattle.tr_model.specs.declared.replies.Reply.TheVariants.{Took}
use Rattle.tr_model.specs.Runs.{Answer, Call, Entered, Read, Refused, State, call}
use Rattle.tr_model.specs.Tables.{Table, thread_of}
use Rattle.tr_scenario.specs.RunTexts.{call_text}
use Rattle.tr_reasons.specs.declared.reasons.Reason.{Reason}
use Rattle.tr_reasons.specs.declared.telling.Before.{Before}
use Rattle.tr_reasons.specs.Reasons.{reason_of}
use Rattle.tr_reasons.specs.Sentences.{full_line, quiet_line, reason_line, thread_line}

-- Who stops

-- the id of the thread's group, which a thread has once its execve(2) is done
abbrev pub leader_of : Option Thread → Option ℕ
leader_of None = None
leader_of (Some t) = Some t.group

-- the thread that an event may put into a stop, by the id that it has then
abbrev pub subject : Table → Event → Option ℕ
subject T (event.Halt id) = Some id
subject T (event.Trap id) = Some id
subject T (event.Die id) = Some id
subject T (event.CloneThread id) = Some id
subject T (event.Exec id) = Some id
subject T (event.Finish id) = leader_of (thread_of T id)
subject T (event.Exit id code) = Some id
subject T (event.Attach id) = Some id
subject T (event.Seize id o) = Some id
subject T (event.Detach id s) = Some id
subject T _ = None

-- who took is told by the reply
abbrev pub stopper : Option ℕ → Reply → Option ℕ
stopper id (Took did tid i) = Some tid
stopper id _ = id

-- Why

-- what is known before the call
abbrev pub before : Table → Call → Before
before T c = record { reason = reason_of T c.actor c.event; subject = subject T c.event; entries = T.entries }

-- the reason of a refusal; without one the journal is full
abbrev pub refused_line : Before → Event → Option Reason → List ℕ
refused_line b e None = full_line b.entries
refused_line b e (Some r) = reason_line e r

-- a refusal's reason, what a call without an entry finds, or the stop that an entry leads to
abbrev pub why : Before → Table → Call → Answer → List ℕ
why b T c (Refused r) = refused_line b c.event b.reason
why b T c (Read r) = quiet_line c.actor c.event
why b T c (Entered r) = thread_line (option_and_then (thread_of T) (stopper b.subject r))

-- why a call that led to this table was answered so
abbrev pub whys : Before → Table → Call → List Answer → List ℕ
whys b T c [] = []
whys b T c (x ∷ xs) = why b T c x

-- the line of a call at a run so far, and why it is answered so
unfoldable pub explained : State → Call → List ℕ
explained s c = call_text s c ++ whys (before s.table c) (call s c).table c (call s c).answers
