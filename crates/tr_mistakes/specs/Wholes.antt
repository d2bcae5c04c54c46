-- What is told of a scenario all of whose fields are read, and which is refused as a whole.
use Rattle.std.specs.Prelude.{ℕ, ◌+◌, ◌==◌, nat_le, List, [], ◌∷◌, ◌++◌, Bool, Option, Some, None, codes, decimal, if◌then◌else◌, length, map}
use Rattle.std.specs.List.{list_all, list_any}
use Rattle.tr_sigset.specs.declared.sets.SigSet.{SigSet}
use Rattle.tr_starts.specs.declared.starts.GroupStart.{GroupStart}
use Rattle.tr_starts.specs.Starts.{ids_started, is_good_group, is_good_id, is_good_name, leads, no_repeat}
use Rattle.tr_status.specs.Texts.{texts}
use Rattle.tr_reading.specs.declared.scenarios.Job.{Job}
use Rattle.tr_reading.specs.declared.scenarios.Job.TheVariants.{Steps, Workers}
use Rattle.tr_reading.specs.declared.scenarios.Scenario.{Scenario}
use Rattle.tr_reading.specs.Scenarios.{is_small, repeats_actor, repeats_in_start}
use Rattle.tr_reading.specs.Workers.{members_of}
use Rattle.tr_mistakes.specs.Parts.{index_part, whole_number}

-- the first of a list that isn't good, after its place
abbrev pub first_bad : {A : Type 0} → (A → Bool) → (A → List ℕ) → ℕ → List A → List ℕ
first_bad good mistake i [] = []
first_bad good mistake i (x ∷ xs) = if good x then first_bad good mistake (i + 1) xs else index_part i ++ mistake x

-- How much there is

-- by which of the two limits it is too large
abbrev pub large_mistake : Job → List ℕ
large_mistake (Steps steps) = codes ": more than 100000 calls"
large_mistake (Workers scripts) = if nat_le (members_of scripts) 10000 then codes ": more than 100000 calls" else codes ": more than 10000 items and ops"

-- What stands twice

-- the first number that stands among those before it
abbrev pub again : List ℕ → List ℕ → Option ℕ
again before [] = None
again before (n ∷ ns) = if list_any (λ m. m == n) before then Some n else again (before ++ n ∷ []) ns

-- the group's actions are of a signal each
abbrev pub acts_once : GroupStart → Bool
acts_once g = no_repeat (map (λ a. a.0) g.actions)

-- a group whose actions aren't
abbrev pub actions_mistake : GroupStart → List ℕ
actions_mistake g = codes ".actions: a signal stands twice"

-- a thread that stands twice, or such a group
abbrev pub started_twice : Option ℕ → List GroupStart → List ℕ
started_twice (Some n) gs = texts (codes ": thread " ∷ decimal n ∷ codes " stands twice" ∷ [])
started_twice None gs = codes ".groups" ++ first_bad acts_once actions_mistake 0 gs

-- in the start
abbrev pub twice_mistake : List GroupStart → List ℕ
twice_mistake gs = started_twice (again [] (ids_started gs)) gs

-- Starts

-- a group that no start has
abbrev pub bad_group : GroupStart → List ℕ
bad_group g =
    if leads g.tgid g.threads
    then (if nat_le (length g.threads) 64
    then (if is_good_name g.name
    then codes ".actions: 9 and 19 can't be set"
    else codes ".name: 1 to 15 characters of printable ASCII without the backslash are wanted")
    else codes ".threads: more than 64")
    else codes ".threads: the first is to be the leader, whose tid is the tgid"

-- which ids a start may have
abbrev pub bad_tid : List ℕ
bad_tid = codes ".tid" ++ whole_number 2 4194303

-- a thread with an id that no start has
abbrev pub bad_id : ℕ × SigSet → List ℕ
bad_id t = bad_tid

-- the thread's id may be in a start
abbrev pub is_good_thread : ℕ × SigSet → Bool
is_good_thread t = is_good_id t.0

-- all of the group's
abbrev pub has_good_ids : GroupStart → Bool
has_good_ids g = list_all is_good_thread g.threads

-- a group with such an id
abbrev pub bad_ids : GroupStart → List ℕ
bad_ids g = codes ".threads" ++ first_bad is_good_thread bad_id 0 g.threads

-- the groups, how many threads they have, and their ids
abbrev pub groups_mistake : List GroupStart → List ℕ
groups_mistake gs =
    if list_all is_good_group gs
    then (if nat_le (length (ids_started gs)) 1024 then first_bad has_good_ids bad_ids 0 gs else codes ": more than 1024 threads")
    else first_bad is_good_group bad_group 0 gs

-- after the key
abbrev pub start_mistake : List GroupStart → List ℕ
start_mistake gs = codes ".groups" ++ groups_mistake gs

-- how much there is, what stands twice, and the start
abbrev pub whole_mistake : Scenario → List ℕ
whole_mistake s =
    if is_small s.job
    then (if repeats_in_start s.start
    then twice_mistake s.start.groups
    else (if repeats_actor s.job then codes ".workers: two are of one actor" else start_mistake s.start.groups))
    else large_mistake s.job
