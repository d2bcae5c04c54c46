-- What calls on a small table answer, and the table that they leave: the words that the cases are told in.
use Rattle.std.proofs.Common.{◌≡◌, ℕ, ◌+◌, ◌-◌, ◌^◌, zero, suc, ℤ, pos, negsuc, List, [], ◌∷◌, Bool, true, false, Option, Some, None, if◌then◌else◌, ◌==◌, filter, map}
use Rattle.std.specs.List.{list_any}
use Rattle.tr_sigset.specs.declared.sets.SigSet.{SigSet}
use Rattle.tr_wait.specs.declared.waits.Which.TheVariants.{Any, One}
use Rattle.tr_wait.specs.declared.waits.WaitFlags.{WaitFlags}
use Rattle.tr_tracee.specs.declared.life.End.TheVariants.{Exited}
use Rattle.tr_tracee.specs.declared.life.Life.{Life}
use Rattle.tr_tracee.specs.declared.life.Life.TheVariants as life
use Rattle.tr_tracee.specs.declared.thread.Options.{Options}
use Rattle.tr_tracee.specs.declared.thread.Thread.{Thread}
use Rattle.tr_tracee.specs.Threads.{no_options, tracer_of}
use Rattle.tr_group.specs.declared.stops.Action.{Action}
use Rattle.tr_group.specs.declared.stops.Action.TheVariants.{Default, Ignore, Catch}
use Rattle.tr_group.specs.declared.stops.GroupStop.TheVariants.{No}
use Rattle.tr_group.specs.declared.stops.GroupStop.{GroupStop}
use Rattle.tr_model.specs.declared.events.Event.{Event}
use Rattle.tr_model.specs.declared.events.Event.TheVariants as event
use Rattle.tr_model.specs.declared.fates.Fate.{Fate}
use Rattle.tr_model.specs.declared.fates.Fate.TheVariants.{Pending}
use Rattle.tr_model.specs.declared.fates.Totals.{Totals}
use Rattle.tr_model.specs.declared.replies.Did.{Did}
use Rattle.tr_model.specs.declared.replies.Did.TheVariants.{Caught, Reported}
use Rattle.tr_model.specs.declared.replies.Refusal.{Refusal}
use Rattle.tr_model.specs.declared.replies.Reply.{Reply}
use Rattle.tr_model.specs.declared.replies.Reply.TheVariants as reply
use Rattle.tr_model.specs.declared.rows.Target.{Target}
use Rattle.tr_model.specs.declared.rows.Target.TheVariants as target
use Rattle.tr_model.specs.Causes.{cause_of, quiet_of}
use Rattle.tr_model.specs.declared.rows.Group.{Group}
use Rattle.tr_model.specs.Entries.{Entry}
use Rattle.tr_model.specs.Choices.{no_choice}
use Rattle.tr_model.specs.Journals.{totals}
use Rattle.tr_model.specs.Runs.{Answer, Entered, Read, Call, State, call, run}
use Rattle.tr_model.specs.Sends.{info}
use Rattle.tr_model.specs.Tables.{Table, action_of, queue, thread_of}

-- The table at the start: group 10, named demo

abbrev pub word_with : List ℕ → ℕ
word_with [] = 0
word_with (s ∷ more) = 2 ^ (s - 1) + word_with more

abbrev pub set_of : List ℕ → SigSet
set_of signals = record { bits = word_with signals }

abbrev pub count_up : ℕ → ℕ → List ℕ
count_up first zero = []
count_up first (suc more) = first ∷ count_up (first + 1) more

abbrev pub is_among : List ℕ → ℕ → Bool
is_among ns n = list_any (λ k. k == n) ns

-- a free thread with these signals blocked
abbrev pub blocking : List ℕ → ℕ → Thread
blocking signals id = record {
  id = id;
  group = 10;
  mask = set_of signals;
  pausing = false;
  life = life.Free;
  trace = None;
  stop_mark = false;
  trap_mark = false;
  note_mark = false;
  joined = false;
  report = None;
}

abbrev pub thread : ℕ → Thread
thread id = blocking [] id

-- this action for these signals, the default for the others
abbrev pub acting : Action → List ℕ → List Action
acting how signals = map (λ s. if is_among signals s then how else Default) (count_up 1 64)

abbrev pub group_with : List Thread → List Action → Table
group_with threads actions = record {
  threads = threads;
  groups = record {
    tgid = 10;
    name = record { bytes = 100 ∷ 101 ∷ 109 ∷ 111 ∷ 0 ∷ 0 ∷ 0 ∷ 0 ∷ 0 ∷ 0 ∷ 0 ∷ 0 ∷ 0 ∷ 0 ∷ 0 ∷ []; len = 4 };
    actions = actions;
    group_stop = No;
    end = None;
    note = None;
  } ∷ [];
  waiting = [];
  accepted = 0;
  raised = 0;
  limit = 4;
  entries = 1000;
}

abbrev pub group_of : List Thread → Table
group_of threads = group_with threads (acting Default [])

abbrev pub one : Table
one = group_of (thread 10 ∷ [])

abbrev pub two : Table
two = group_of (thread 10 ∷ thread 11 ∷ [])

abbrev pub catching : List ℕ → Table
catching signals = group_with (thread 10 ∷ []) (acting Catch signals)

abbrev pub three : Table
three = group_of (thread 10 ∷ thread 11 ∷ thread 12 ∷ [])

abbrev pub group_record : ℕ → Group
group_record id = record {
  tgid = id;
  name = record { bytes = 100 ∷ 101 ∷ 109 ∷ 111 ∷ 0 ∷ 0 ∷ 0 ∷ 0 ∷ 0 ∷ 0 ∷ 0 ∷ 0 ∷ 0 ∷ 0 ∷ 0 ∷ []; len = 4 };
  actions = acting Default [];
  group_stop = No;
  end = None;
  note = None;
}

abbrev pub leader : ℕ → Thread
leader id = record (thread id) { group = id }

abbrev pub three_groups : Table
three_groups = record one { threads = leader 10 ∷ leader 20 ∷ leader 30 ∷ []; groups = group_record 10 ∷ group_record 20 ∷ group_record 30 ∷ [] }

-- one group of one thread, with this id
abbrev pub alone : ℕ → Table
alone id = record one { threads = leader id ∷ []; groups = group_record id ∷ [] }

-- a dead thread of this group
abbrev pub dead_of : ℕ → ℕ → Thread
dead_of group id = record (thread id) { group = group; life = life.Dead (Exited 0) }

-- Calls: the threads themselves, their tracer 900, the sender 901 and the starter 1

abbrev pub by : ℕ → Event → Call
by a e = record { actor = a; event = e }

abbrev pub mask_of : ℕ → List ℕ → Call
mask_of id signals = by id (event.Mask id (set_of signals))

abbrev pub mask : List ℕ → Call
mask signals = mask_of 10 signals

abbrev pub action : ℕ → Action → Call
action s how = by 10 (event.SetAction 10 s how)

abbrev pub pause : Call
pause = by 10 (event.Pause 10)

abbrev pub take_by : ℕ → Call
take_by id = by id (event.Take id)

abbrev pub take : Call
take = take_by 10

abbrev pub halt_by : ℕ → Call
halt_by id = by id (event.Halt id)

abbrev pub halt : Call
halt = halt_by 10

abbrev pub trap : Call
trap = by 10 (event.Trap 10)

abbrev pub die_by : ℕ → Call
die_by id = by id (event.Die id)

abbrev pub die : Call
die = die_by 10

abbrev pub exec_by : ℕ → Call
exec_by id = by id (event.Exec id)

abbrev pub exec : Call
exec = exec_by 10

abbrev pub finish_by : ℕ → Call
finish_by id = by id (event.Finish id)

abbrev pub exit_by : ℕ → ℕ → Call
exit_by id code = by id (event.Exit id code)

abbrev pub exit_group_by : ℕ → ℕ → Call
exit_group_by id code = by id (event.ExitGroup id code)

abbrev pub trap_by : ℕ → Call
trap_by id = by id (event.Trap id)

abbrev pub clone : Call
clone = by 10 (event.CloneThread 10)

abbrev pub kill : ℕ → Call
kill s = by 901 (event.Kill 10 s)

abbrev pub kill_of : ℕ → ℕ → Call
kill_of g s = by 901 (event.Kill g s)

abbrev pub tgkill : ℕ → ℕ → Call
tgkill id s = by 901 (event.Tgkill 10 id s)

abbrev pub sigqueue : ℤ → Call
sigqueue value = by 901 (event.Sigqueue 10 34 value)

abbrev pub sigqueue_of : ℕ → ℕ → Call
sigqueue_of g s = by 901 (event.Sigqueue g s (pos 0))

abbrev pub take_any : Call
take_any = by 900 (event.TakeAny 10)

abbrev pub attach : Call
attach = by 900 (event.Attach 10)

abbrev pub attach_of : ℕ → Call
attach_of id = by 900 (event.Attach id)

abbrev pub seize_of : ℕ → Options → Call
seize_of id o = by 900 (event.Seize id o)

abbrev pub seize : Options → Call
seize o = seize_of 10 o

abbrev pub interrupt : Call
interrupt = by 900 (event.Interrupt 10)

abbrev pub interrupt_of : ℕ → Call
interrupt_of id = by 900 (event.Interrupt id)

abbrev pub cont_of : ℕ → ℕ → Call
cont_of id s = by 900 (event.Cont id s)

abbrev pub cont : ℕ → Call
cont s = cont_of 10 s

abbrev pub detach_of : ℕ → ℕ → Call
detach_of id s = by 900 (event.Detach id s)

abbrev pub options_of : ℕ → Options → Call
options_of id o = by 900 (event.SetOptions id o)

abbrev pub listen : Call
listen = by 900 (event.Listen 10)

abbrev pub listen_of : ℕ → Call
listen_of id = by 900 (event.Listen id)

abbrev pub message_of : ℕ → Call
message_of id = by 900 (event.EventMessage id)

abbrev pub message : Call
message = message_of 10

abbrev pub siginfo : Call
siginfo = by 900 (event.SignalInfo 10)

abbrev pub tracer_exit : Call
tracer_exit = by 900 event.TracerExit

abbrev pub wait : Call
wait = by 900 (event.Wait Any)

abbrev pub wait_for : ℕ → Call
wait_for id = by 900 (event.Wait (One id))

abbrev pub starter_wait : Bool → Bool → Call
starter_wait untraced continued = by 1 (event.StarterWait (One 0) (record { untraced = untraced; continued = continued }))

abbrev pub reap : Call
reap = starter_wait false false

abbrev pub wait_stopped : Call
wait_stopped = starter_wait true false

abbrev pub wait_continued : Call
wait_continued = starter_wait false true

abbrev pub both : Call
both = starter_wait true true

abbrev pub any_note : WaitFlags
any_note = record { untraced = true; continued = true }

abbrev pub with_clone : Options
with_clone = record { clone = true; exec = false; exit = false; exitkill = false }

abbrev pub with_exec : Options
with_exec = record { clone = false; exec = true; exit = false; exitkill = false }

abbrev pub with_exit : Options
with_exit = record { clone = false; exec = false; exit = true; exitkill = false }

abbrev pub with_exitkill : Options
with_exitkill = record { clone = false; exec = false; exit = false; exitkill = true }

abbrev pub unchosen : ℕ → Event → Entry
unchosen a e = record { actor = a; event = e; choice = no_choice }

-- Answers

abbrev pub answers : Table → List Call → List Answer
answers T cs = (run T cs).answers

abbrev pub ok : Answer
ok = Entered reply.Done

abbrev pub nothing : Answer
nothing = Read reply.Nothing

abbrev pub sent : ℕ → Fate → Answer
sent n f = Entered (reply.Sent f n)

abbrev pub took_with : ℕ → ℕ → ℕ → ℤ → ℕ → ℤ → Did → Answer
took_with id n s code pid value did = Entered (reply.Took did id (record { n = n; sig = s; info = info code pid value }))

-- an instance of the signal that the sender sent by kill(2)
abbrev pub took : ℕ → ℕ → ℕ → Did → Answer
took id n s did = took_with id n s (pos 0) 901 (pos 0) did

-- the SIGSTOP of PTRACE_ATTACH
abbrev pub took_attached : Answer
took_attached = took_with 10 1 19 (pos 128) 0 (pos 0) Reported

abbrev pub took_queued : ℕ → ℤ → Answer
took_queued n value = took_with 10 n 34 (negsuc 0) 901 value Caught

abbrev pub cloned : ℕ → Answer
cloned id = Entered (reply.Cloned id)

abbrev pub waited : ℕ → ℕ → ℕ → Answer
waited id w r = Entered (reply.Waited id w r)

abbrev pub told : ℕ → Answer
told n = Read (reply.Message n)

abbrev pub told_signal : ℕ → ℤ → ℕ → Answer
told_signal s code pid = Read (reply.Signal s (info code pid (pos 0)))

-- What is left

abbrev pub left : Table → List Call → Table
left T cs = (run T cs).table

abbrev pub journal : Table → List Call → List Entry
journal T cs = (run T cs).journal

abbrev pub tally : Table → List Call → Totals
tally T cs = let s = run T cs in totals T s.journal s.table

abbrev pub sums : ℕ → ℕ → ℕ → ℕ → ℕ → ℕ → Totals
sums accepted pending merged delivered suppressed flushed = record {
  accepted = accepted;
  pending = pending;
  merged = merged;
  delivered = delivered;
  suppressed = suppressed;
  flushed = flushed;
}

abbrev pub signals_for : Table → Target → List ℕ
signals_for T q = map (λ i. i.sig) (queue T q)

-- the signals that wait for the group
abbrev pub shared : Table → List ℕ
shared T = signals_for T (target.Group 10)

-- the signals that wait for a thread
abbrev pub own : Table → ℕ → List ℕ
own T id = signals_for T (target.Thread id)

abbrev pub is_action : Action → Action → Bool
is_action Default Default = true
is_action Ignore Ignore = true
is_action Catch Catch = true
is_action a b = false

-- the signals with this action
abbrev pub signals_with : Action → Table → List ℕ
signals_with how T = filter (λ s. is_action how (action_of T 10 s)) (count_up 1 64)

abbrev pub life_in : Option Thread → Option Life
life_in None = None
life_in (Some t) = Some t.life

abbrev pub life_at : Table → ℕ → Option Life
life_at T id = life_in (thread_of T id)

abbrev pub pausing_in : Option Thread → Bool
pausing_in None = false
pausing_in (Some t) = t.pausing

abbrev pub tracer_in : Option Thread → Option ℕ
tracer_in None = None
tracer_in (Some t) = tracer_of t.trace

abbrev pub tracer_at : Table → ℕ → Option ℕ
tracer_at T id = tracer_in (thread_of T id)

abbrev pub mask_in : Option Thread → Option SigSet
mask_in None = None
mask_in (Some t) = Some t.mask

abbrev pub mask_at : Table → ℕ → Option SigSet
mask_at T id = mask_in (thread_of T id)

abbrev pub lives : Table → List Life
lives T = map (λ t. t.life) T.threads

abbrev pub ids : Table → List ℕ
ids T = map (λ t. t.id) T.threads

abbrev pub joins : Table → List Bool
joins T = map (λ t. t.joined) T.threads

abbrev pub stop_marks : Table → List Bool
stop_marks T = map (λ t. t.stop_mark) T.threads

abbrev pub trap_marks : Table → List Bool
trap_marks T = map (λ t. t.trap_mark) T.threads

abbrev pub note_marks : Table → List Bool
note_marks T = map (λ t. t.note_mark) T.threads

abbrev pub stops : Table → List GroupStop
stops T = map (λ g. g.group_stop) T.groups

-- What several topics begin with

abbrev pub queueing : List Call
queueing = action 34 Catch ∷ mask (34 ∷ []) ∷ sigqueue (pos 1) ∷ sigqueue (pos 2) ∷ sigqueue (pos 3) ∷ sigqueue (pos 4) ∷ []

abbrev pub queued : List Answer
queued = ok ∷ ok ∷ sent 1 Pending ∷ sent 2 Pending ∷ sent 3 Pending ∷ sent 4 Pending ∷ []

abbrev pub taking_four : List Call
taking_four = mask [] ∷ take ∷ take ∷ take ∷ take ∷ take ∷ []

abbrev pub took_four : List Answer
took_four = ok ∷ took_queued 1 (pos 1) ∷ took_queued 2 (pos 2) ∷ took_queued 3 (pos 3) ∷ took_queued 4 (pos 4) ∷ nothing ∷ []

abbrev pub blocking_cont : Table
blocking_cont = group_of (blocking (18 ∷ []) 10 ∷ blocking (18 ∷ []) 11 ∷ [])

abbrev pub attaching : List Call
attaching = attach ∷ take ∷ wait ∷ []

abbrev pub attached : List Answer
attached = sent 1 Pending ∷ took_attached ∷ waited 10 0x137f 1 ∷ []

abbrev pub halting : List Call
halting = attach ∷ take ∷ siginfo ∷ wait ∷ cont 19 ∷ halt ∷ []

abbrev pub halted : List Answer
halted = sent 1 Pending ∷ took_attached ∷ told_signal 19 (pos 128) 0 ∷ waited 10 0x137f 1 ∷ ok ∷ ok ∷ []

-- a SIGCONT comes while a tracee listens: it is trapped to be told, an untraced thread takes the SIGCONT, and the starter learns
-- nothing while a thread of the group is traced
abbrev pub listening_to_a_cont : List Call
listening_to_a_cont = seize no_options ∷ kill 19 ∷ take_by 11 ∷ halt ∷ halt_by 11 ∷ wait ∷ listen ∷ kill 18 ∷ []

-- what waits for a thread passes with it to the id of the leader
abbrev pub second_blocks_two : Table
second_blocks_two = group_of (thread 10 ∷ blocking (40 ∷ 41 ∷ []) 11 ∷ [])

abbrev pub exec_with_waiting_signals : List Call
exec_with_waiting_signals = tgkill 11 41 ∷ kill 40 ∷ tgkill 11 40 ∷ tgkill 11 40 ∷ exec_by 11 ∷ die ∷ finish_by 11 ∷ []

-- three tracees of three groups: a stop signal is held in two, one group is dead
abbrev pub ending_with_three_groups : List Call
ending_with_three_groups = seize no_options ∷ seize_of 20 no_options ∷ seize_of 30 no_options ∷ kill_of 30 20 ∷ kill_of 10 20 ∷ take ∷ take_by 30 ∷ kill_of 20 9 ∷ die_by 20 ∷ tracer_exit ∷ []

-- a group dies whose continue the starter has not been told
abbrev pub dying_after_a_continue : List Call
dying_after_a_continue = kill 20 ∷ take ∷ halt ∷ kill 18 ∷ exit_by 10 0 ∷ die ∷ []

-- Every run

-- a call that is refused changes nothing
pub a_refused_call_changes_nothing : (s : State) (c : Call) (why : Refusal) → cause_of s.table c.actor c.event ≡ Some why → (call s c).table ≡ s.table
a_refused_call_changes_nothing s c why e = rw e

-- nor does one that is answered without an entry
pub a_quiet_call_changes_nothing : (s : State) (c : Call) (r : Reply) → cause_of s.table c.actor c.event ≡ None → quiet_of s.table c.actor c.event ≡ Some r → (call s c).table ≡ s.table
a_quiet_call_changes_nothing s c r e q = rw (e, q)
