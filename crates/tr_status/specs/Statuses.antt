-- The status text of a thread: proc_pid_status(5).
use Rattle.std.specs.Prelude.{ℕ, ◌-◌, Bool, true, false, ◌&&◌, nat_le, List, [], ◌∷◌, Option, Some, None, codes, decimal, length, slice_index_or, take, if◌then◌else◌, unwrap_or}
use Rattle.tr_sigset.specs.Sets.{has}
use Rattle.tr_pending.specs.Waiting.{is_waiting}
use Rattle.tr_tracee.specs.declared.life.Life.{Life}
use Rattle.tr_tracee.specs.declared.life.Life.TheVariants as life
use Rattle.tr_tracee.specs.declared.thread.Thread.{Thread}
use Rattle.tr_tracee.specs.Threads.{tracer_of}
use Rattle.tr_group.specs.declared.stops.Action.{Action}
use Rattle.tr_group.specs.declared.stops.Action.TheVariants.{Default, Ignore, Catch}
use Rattle.tr_model.specs.declared.rows.Group.{Group}
use Rattle.tr_model.specs.declared.rows.Target.{Target}
use Rattle.tr_model.specs.declared.rows.Target.TheVariants as target
use Rattle.tr_model.specs.Tables.{Table, actions_of, group_of, members, queue}
use Rattle.tr_lanes.specs.Digits.{set_digits}
use Rattle.tr_status.specs.Texts.{texts}

-- The values of the lines

-- what a thread is doing; a pausing one sleeps
abbrev pub state_text : Bool → Life → List ℕ
state_text pausing life.Free = if pausing then codes "S (sleeping)" else codes "R (running)"
state_text pausing life.Execing = codes "R (running)"
state_text pausing (life.Leaving end told) = codes "R (running)"
state_text pausing life.Stopped = codes "T (stopped)"
state_text pausing (life.InStop stop) = codes "t (tracing stop)"
state_text pausing life.Listening = codes "t (tracing stop)"
state_text pausing (life.Dead end) = codes "Z (zombie)"

-- the bytes of a group's name
abbrev pub name_text : Option Group → List ℕ
name_text None = []
name_text (Some x) = take x.name.len x.name.bytes

-- the signals that wait for a target
abbrev pub waits_for : Table → Target → ℕ → Bool
waits_for T q n = is_waiting n (queue T q)

-- both are the same action
abbrev pub same_action : Action → Action → Bool
same_action Default Default = true
same_action Ignore Ignore = true
same_action Catch Catch = true
same_action _ _ = false

-- the signals that have this action
abbrev pub has_action : Action → List Action → ℕ → Bool
has_action a actions n = (nat_le 1 n && nat_le n 64) && same_action a (slice_index_or actions (n - 1) Default)

-- The text

-- what the lines tell, but for the parent, which is always the starter
pub record Lines : Type 0 where
  pub name : List ℕ
  pub state : List ℕ
  pub tgid : List ℕ
  pub pid : List ℕ
  pub tracer : List ℕ
  pub threads : List ℕ
  pub queued : List ℕ
  pub limit : List ℕ
  pub own : List ℕ
  pub shared : List ℕ
  pub blocked : List ℕ
  pub ignored : List ℕ
  pub caught : List ℕ

-- each line is a name, a colon, a tab, a value and a newline; the parent of all groups is the starter, 1
unfoldable pub lines_text : Lines → List ℕ
lines_text l = texts (
    codes "Name:\t" ∷ l.name ∷ codes "\n" ∷
    codes "State:\t" ∷ l.state ∷ codes "\n" ∷
    codes "Tgid:\t" ∷ l.tgid ∷ codes "\n" ∷
    codes "Pid:\t" ∷ l.pid ∷ codes "\n" ∷
    codes "PPid:\t" ∷ codes "1" ∷ codes "\n" ∷
    codes "TracerPid:\t" ∷ l.tracer ∷ codes "\n" ∷
    codes "Threads:\t" ∷ l.threads ∷ codes "\n" ∷
    codes "SigQ:\t" ∷ l.queued ∷ codes "/" ∷ l.limit ∷ codes "\n" ∷
    codes "SigPnd:\t" ∷ l.own ∷ codes "\n" ∷
    codes "ShdPnd:\t" ∷ l.shared ∷ codes "\n" ∷
    codes "SigBlk:\t" ∷ l.blocked ∷ codes "\n" ∷
    codes "SigIgn:\t" ∷ l.ignored ∷ codes "\n" ∷
    codes "SigCgt:\t" ∷ l.caught ∷ codes "\n" ∷ [])

-- the status of a thread; SigQ tells all instances that wait in the kernel, and the queue limit
abbrev pub status_text : Table → Thread → List ℕ
status_text T t = lines_text (record {
  name = name_text (group_of T t.group);
  state = state_text t.pausing t.life;
  tgid = decimal t.group;
  pid = decimal t.id;
  tracer = decimal (unwrap_or (tracer_of t.trace) 0);
  threads = decimal (length (members T t.group));
  queued = decimal (length T.waiting);
  limit = decimal T.limit;
  own = set_digits (waits_for T (target.Thread t.id));
  shared = set_digits (waits_for T (target.Group t.group));
  blocked = set_digits (has t.mask);
  ignored = set_digits (has_action Ignore (actions_of (group_of T t.group)));
  caught = set_digits (has_action Catch (actions_of (group_of T t.group)));
})
