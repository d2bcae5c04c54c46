-- The table that a start stands for, and which starts are good.
use Rattle.std.specs.Prelude.{ℕ, ◌-◌, ◌==◌, nat_le, List, [], ◌∷◌, ◌++◌, length, replicate, Bool, true, false, not, ◌&&◌, None, map}
use Rattle.std.specs.List.{list_all, list_any}
use Rattle.tr_sigset.specs.declared.sets.SigSet.{SigSet}
use Rattle.tr_tracee.specs.declared.life.Life.TheVariants.{Free}
use Rattle.tr_tracee.specs.declared.thread.Thread.{Thread}
use Rattle.tr_tracee.specs.Marks.{storable}
use Rattle.tr_group.specs.declared.stops.Action.{Action}
use Rattle.tr_group.specs.declared.stops.Action.TheVariants.{Default}
use Rattle.tr_group.specs.declared.stops.GroupStop.TheVariants.{No}
use Rattle.tr_model.specs.declared.rows.Group.{Group}
use Rattle.tr_model.specs.declared.rows.Name.{Name}
use Rattle.tr_model.specs.Sends.{set_at}
use Rattle.tr_model.specs.Tables.{Table}
use Rattle.tr_starts.specs.declared.starts.GroupStart.{GroupStart}
use Rattle.tr_starts.specs.declared.starts.Start.{Start}

-- The table

-- a thread runs, untraced, with nothing to serve
abbrev pub thread_started : ℕ → ℕ × SigSet → Thread
thread_started tgid t = record {
  id = t.0;
  group = tgid;
  mask = storable t.1;
  pausing = false;
  life = Free;
  trace = None;
  stop_mark = false;
  trap_mark = false;
  note_mark = false;
  joined = false;
  report = None;
}

-- the threads of a group of the start, in their order
abbrev pub threads_started : GroupStart → List Thread
threads_started g = map (thread_started g.tgid) g.threads

-- those of all groups, in the order of the start
abbrev pub all_started : List GroupStart → List Thread
all_started [] = []
all_started (g ∷ gs) = threads_started g ++ all_started gs

-- the actions that are listed, each in the place of its signal
abbrev pub with_actions : List Action → List (ℕ × Action) → List Action
with_actions actions [] = actions
with_actions actions (a ∷ more) = with_actions (set_at (a.0 - 1) a.1 actions) more

-- padded to its 15 bytes
abbrev pub name_of : List ℕ → Name
name_of bytes = record { bytes = bytes ++ replicate (15 - length bytes) 0; len = length bytes }

-- no group-stop, no end and no note at the start; actions that aren't listed are the default ones
abbrev pub group_started : GroupStart → Group
group_started g = record { tgid = g.tgid; name = name_of g.name; actions = with_actions (replicate 64 Default) g.actions; group_stop = No; end = None; note = None }

-- nothing waits, and nothing was accepted or raised
abbrev pub table_of : Start → Table
table_of s = record {
  threads = all_started s.groups;
  groups = map group_started s.groups;
  waiting = [];
  accepted = 0;
  raised = 0;
  limit = s.limit;
  entries = s.entries;
}

-- each name fits the 15 bytes that a name has

-- a record has 15 bytes for a name
abbrev pub name_fits : GroupStart → Bool
name_fits g = nat_le (length g.name) 15

-- each name fits into its record
abbrev pub names_fit : Start → Bool
names_fit s = list_all name_fits s.groups

-- Good starts

-- no number stands twice
abbrev pub no_repeat : List ℕ → Bool
no_repeat [] = true
no_repeat (x ∷ xs) = not (list_any (λ y. y == x) xs) && no_repeat xs

-- printable ASCII without the backslash
abbrev pub is_name_byte : ℕ → Bool
is_name_byte b = nat_le 0x20 b && (nat_le b 0x7e && not (b == 92))

-- 1 to 15 bytes of those that a name may have
abbrev pub is_good_name : List ℕ → Bool
is_good_name bytes = nat_le 1 (length bytes) && (nat_le (length bytes) 15 && list_all is_name_byte bytes)

-- KILL and STOP keep their actions, and no signal is set twice
abbrev pub may_be_set : ℕ × Action → Bool
may_be_set a = not (a.0 == 9) && not (a.0 == 19)

-- each listed action may be set, and is listed once
abbrev pub is_good_actions : List (ℕ × Action) → Bool
is_good_actions actions = list_all may_be_set actions && no_repeat (map (λ a. a.0) actions)

-- the leader, whose id is the group's, is the first of its threads
abbrev pub leads : ℕ → List (ℕ × SigSet) → Bool
leads tgid [] = false
leads tgid (t ∷ ts) = t.0 == tgid

-- the leader first, at most 64 threads
abbrev pub is_good_group : GroupStart → Bool
is_good_group g = leads g.tgid g.threads && (nat_le (length g.threads) 64 && (is_good_name g.name && is_good_actions g.actions))

-- 2 to 4,194,303
abbrev pub is_good_id : ℕ → Bool
is_good_id id = nat_le 2 id && nat_le id 4194303

-- the ids of all threads of the start
abbrev pub ids_started : List GroupStart → List ℕ
ids_started [] = []
ids_started (g ∷ gs) = map (λ t. t.0) g.threads ++ ids_started gs

-- good groups, at most 1,024 threads in all, and ids that are in range and distinct
abbrev pub is_good : Start → Bool
is_good s = list_all is_good_group s.groups && (nat_le (length (ids_started s.groups)) 1024 && (list_all is_good_id (ids_started s.groups) && no_repeat (ids_started s.groups)))
