-- What is kept of each group's threads beside the list of all: their ids, two words of each, and how many of them are in a
-- standing.
use Rattle.std.specs.Prelude.{◌≡◌, ℕ, Bool, ◌+◌, ◌-◌, ◌≤◌, ◌==◌, List, [], ◌∷◌, ◌++◌, filter, get_or, length, map, nat_eq, remove, set, if◌then◌else◌, unwrap_or}
use Rattle.std.specs.Map.{lookup}
use Rattle.tr_tracee.specs.declared.thread.Thread.{Thread}
use Rattle.tr_tracee.specs.Lives.{is_dead, is_live}
use Rattle.tr_tracee.specs.Threads.{is_traced}
use Rattle.tr_model.specs.Tables.{ids_of}
use Rattle.tr_index.specs.Counts.{bool_to_nat}
use Rattle.tr_index.specs.Places.{place_in}
use Rattle.tr_threads.specs.Rows.{blocked_word, runnable_word}

-- the ids of a group's threads, what each blocks and whether it may take, in table order, and how many are live, are dead,
-- are traced, and have a stop mark
pub record RosterView : Type 0 where
  pub ids : List ℕ
  pub blocked : List ℕ
  pub runnable : List ℕ
  pub live : ℕ
  pub dead : ℕ
  pub traced : ℕ
  pub marked : ℕ

-- that of no threads
abbrev pub no_one : RosterView
no_one = record { ids = []; blocked = []; runnable = []; live = 0; dead = 0; traced = 0; marked = 0 }

-- that of these threads
abbrev pub roster_of : List Thread → RosterView
roster_of ts = record {
  ids = ids_of ts;
  blocked = map blocked_word ts;
  runnable = map runnable_word ts;
  live = length (filter (λ t. is_live t.life) ts);
  dead = length (filter (λ t. is_dead t.life) ts);
  traced = length (filter is_traced ts);
  marked = length (filter (λ t. t.stop_mark) ts);
}

-- a thread comes last
abbrev pub with_last : Thread → RosterView → RosterView
with_last t r = record {
  ids = r.ids ++ t.id ∷ [];
  blocked = r.blocked ++ blocked_word t ∷ [];
  runnable = r.runnable ++ runnable_word t ∷ [];
  live = r.live + bool_to_nat (is_live t.life);
  dead = r.dead + bool_to_nat (is_dead t.life);
  traced = r.traced + bool_to_nat (is_traced t);
  marked = r.marked + bool_to_nat t.stop_mark;
}

-- a thread goes
abbrev pub without : Thread → RosterView → RosterView
without t r = record {
  ids = remove r.ids (place_in t.id r.ids);
  blocked = remove r.blocked (place_in t.id r.ids);
  runnable = remove r.runnable (place_in t.id r.ids);
  live = r.live - bool_to_nat (is_live t.life);
  dead = r.dead - bool_to_nat (is_dead t.life);
  traced = r.traced - bool_to_nat (is_traced t);
  marked = r.marked - bool_to_nat t.stop_mark;
}

-- the words of the thread with the id are those of this record
abbrev pub with_words : ℕ → Thread → RosterView → RosterView
with_words id u r = record {
  ids = r.ids;
  blocked = set r.blocked (place_in id r.ids) (blocked_word u);
  runnable = set r.runnable (place_in id r.ids) (runnable_word u);
  live = r.live;
  dead = r.dead;
  traced = r.traced;
  marked = r.marked;
}

-- a thread counts as another record
abbrev pub with_counts : Thread → Thread → RosterView → RosterView
with_counts t u r = record {
  ids = r.ids;
  blocked = r.blocked;
  runnable = r.runnable;
  live = r.live + bool_to_nat (is_live u.life) - bool_to_nat (is_live t.life);
  dead = r.dead + bool_to_nat (is_dead u.life) - bool_to_nat (is_dead t.life);
  traced = r.traced + bool_to_nat (is_traced u) - bool_to_nat (is_traced t);
  marked = r.marked + bool_to_nat u.stop_mark - bool_to_nat t.stop_mark;
}

-- the record of a thread becomes another
abbrev pub rewritten : Thread → Thread → RosterView → RosterView
rewritten t u r = with_counts t u (with_words t.id u r)

-- a thread that has become this record, and had a stop mark or not, may take or not, and counts with its stop mark
abbrev pub with_marks : Bool → Thread → RosterView → RosterView
with_marks had u r = record {
  ids = r.ids;
  blocked = r.blocked;
  runnable = set r.runnable (place_in u.id r.ids) (runnable_word u);
  live = r.live;
  dead = r.dead;
  traced = r.traced;
  marked = r.marked + bool_to_nat u.stop_mark - bool_to_nat had;
}

-- no count is above 64
pub record IsSmall (r : RosterView) : Type 0 where
  pub live : r.live ≤ 64
  pub dead : r.dead ≤ 64
  pub traced : r.traced ≤ 64
  pub marked : r.marked ≤ 64

-- the thread is one of those that are counted
pub record Counts (t : Thread) (r : RosterView) : Type 0 where
  pub live : bool_to_nat (is_live t.life) ≤ r.live
  pub dead : bool_to_nat (is_dead t.life) ≤ r.dead
  pub traced : bool_to_nat (is_traced t) ≤ r.traced
  pub marked : bool_to_nat t.stop_mark ≤ r.marked

-- the words of the thread stand where its id does
pub record HasRow (t : Thread) (r : RosterView) : Type 0 where
  pub blocked : get_or r.blocked (place_in t.id r.ids) (blocked_word t) ≡ blocked_word t
  pub runnable : get_or r.runnable (place_in t.id r.ids) (runnable_word t) ≡ runnable_word t

-- the two count as the same
pub record CountAlike (t u : Thread) : Type 0 where
  pub live : is_live t.life ≡ is_live u.life
  pub dead : is_dead t.life ≡ is_dead u.life
  pub traced : is_traced t ≡ is_traced u
  pub marked : t.stop_mark ≡ u.stop_mark

-- the two have the same words
pub record HaveSameWords (t u : Thread) : Type 0 where
  pub blocked : blocked_word t ≡ blocked_word u
  pub runnable : runnable_word t ≡ runnable_word u

-- nothing is kept of a group without threads
abbrev pub unless_empty : RosterView → RosterView
unless_empty r = if length r.ids == 0 then no_one else r

-- what is kept of the group
abbrev pub roster_in : List (ℕ × RosterView) → ℕ → RosterView
roster_in rs g = unwrap_or (lookup (nat_eq g) rs) no_one
