-- Threads that are listed under their tracers.
use Rattle.std.specs.Prelude.{◌≡◌, ℕ, ◌+◌, ◌<◌, ◌≤◌, ◌==◌, Bool, false, List, Option, Some, None, if◌then◌else◌, filter, is_some, leb, length, map, nat_lt, remove, take}
use Rattle.std.specs.List.{insert, list_any}
use Rattle.std.specs.List.Sorted.{IsNonDecreasingBy, IsPartitionedBy}
use Rattle.std.specs.Option.{option_eq}
use Rattle.tr_tracee.specs.declared.thread.Thread.{Thread}
use Rattle.tr_model.specs.Tables.{ids_of}
use Rattle.tr_index.specs.Counts.{bool_to_nat}
use Rattle.tr_index.specs.Multisets.{is_number}
use Rattle.tr_threads.specs.declared.tracee_list.Listed.{Listed}

-- the row is one of the actor's
abbrev pub is_under : ℕ → Listed → Bool
is_under a l = l.tracer == a

-- there is a row, and it is one of the actor's
abbrev pub is_under_if : ℕ → Option Listed → Bool
is_under_if a None = false
is_under_if a (Some l) = is_under a l

-- the ids of the actor's rows, in their order
abbrev pub ids_under : ℕ → List Listed → List ℕ
ids_under a ls = map (λ l. l.id) (filter (is_under a) ls)

-- the rows rise by tracer
abbrev pub Rises : List Listed → Type 0
Rises ls = IsNonDecreasingBy (λ l. l.tracer) ls

-- the rows are those of the threads that have a key, by the keys, and those of one key in table order
pub record IsListing (key : Thread → Option ℕ) (ts : List Thread) (rows : List Listed) : Type 0 where
  pub rises : Rises rows
  pub listed : (a : ℕ) → ids_under a rows ≡ ids_of (filter (λ t. is_number a (key t)) ts)
  pub sized : length rows ≡ length (filter (λ t. is_some (key t)) ts)

-- the id is one of the first i
abbrev pub is_before : List ℕ → ℕ → ℕ → Bool
is_before ids i id = list_any (λ n. n == id) (take i ids)

-- the row stands before those of the tracer's threads from the place i on
abbrev pub stands_before : List ℕ → ℕ → ℕ → Listed → Bool
stands_before ids a i l = if l.tracer == a then is_before ids i l.id else nat_lt l.tracer a

-- how many rows do
abbrev pub rank : List ℕ → ℕ → ℕ → List Listed → ℕ
rank ids a i ls = length (filter (stands_before ids a i) ls)

-- the row of the tracer's thread at the place goes
abbrev pub without_row : List ℕ → ℕ → Option ℕ → List Listed → List Listed
without_row ids i None ls = ls
without_row ids i (Some a) ls = remove ls (rank ids a i ls)

-- a row of the thread at the place comes
abbrev pub with_row : List ℕ → ℕ → ℕ → Option ℕ → List Listed → List Listed
with_row ids i id None ls = ls
with_row ids i id (Some a) ls = insert ls (rank ids a i ls) (record { tracer = a; id = id })

-- the thread at the place goes from the one tracer to the other
abbrev pub relisted : List ℕ → ℕ → ℕ → Option ℕ → Option ℕ → List Listed → List Listed
relisted ids i id before after ls =
    if option_eq (λ m n. m == n) before after then ls
    else with_row ids i id after (without_row ids i before ls)

-- a thread that comes last is listed, where it has a tracer
abbrev pub with_last : Option ℕ → ℕ → List Listed → List Listed
with_last None id ls = ls
with_last (Some a) id ls = insert ls (length (filter (λ l. leb l.tracer a) ls)) (record { tracer = a; id = id })

-- the row that goes is there, and there is a place for the one that comes
pub record MayRelist (ids : List ℕ) (i : ℕ) (before after : Option ℕ) (ls : List Listed) (places : ℕ) : Type 0 where
  pub parted : (a : ℕ) → IsPartitionedBy (stands_before ids a i) ls
  pub there : (a : ℕ) → before ≡ Some a → rank ids a i ls < length ls
  pub room : length ls + bool_to_nat (is_some after) ≤ places + bool_to_nat (is_some before)
