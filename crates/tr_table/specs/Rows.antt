-- The words of a group's threads: signal n is bit n - 1.
use Rattle.std.specs.Prelude.{◌≡◌, ℕ, ◌<◌, ◌^◌, List, [], ◌∷◌, filter}
use Rattle.tr_sigset.specs.Sets.{in_word}
use Rattle.tr_pending.specs.declared.instance.Instance.{Instance}
use Rattle.tr_pending.specs.Waiting.{is_waiting}
use Rattle.tr_tracee.specs.declared.thread.Thread.{Thread}
use Rattle.tr_tracee.specs.Threads.{in_group}
use Rattle.tr_model.specs.declared.rows.Target.TheVariants as target
use Rattle.tr_model.specs.declared.rows.Waiting.{Waiting}
use Rattle.tr_model.specs.Tables.{Table}
use Rattle.tr_threads.specs.Rows.{blocked_word, runnable_word}
use Rattle.tr_queues.specs.Changes.{queue_in}

-- what a contract sees of the rows: a word for each thread, and the word of the shared queue
pub record RowsView : Type 0 where
  pub own : List ℕ
  pub blocked : List ℕ
  pub runnable : List ℕ
  pub shared : ℕ

-- the word of the signals that wait in a queue
pub record IsWord (word : ℕ) (queue : List Instance) : Type 0 where
  pub waits : (n : ℕ) → in_word word n ≡ is_waiting n queue
  pub fits : word < 2 ^ 64

-- the words of what waits in the own queues of the threads with these ids
abbrev pub AreOwn : List Waiting → List ℕ → List ℕ → Type 0
AreOwn ws [] [] = Unit {0}
AreOwn ws (n ∷ ns) (o ∷ os) = IsWord o (queue_in (target.Thread n) ws) × AreOwn ws ns os
AreOwn ws _ _ = ⊥

-- the words of one thread
pub record IsRow (waiting : List Waiting) (t : Thread) (o b r : ℕ) : Type 0 where
  pub own : IsWord o (queue_in (target.Thread t.id) waiting)
  pub blocked : b ≡ blocked_word t
  pub runnable : r ≡ runnable_word t
  pub fits : b < 2 ^ 64

-- thread by thread
abbrev pub AreRows : List Waiting → List Thread → List ℕ → List ℕ → List ℕ → Type 0
AreRows ws [] [] [] [] = Unit {0}
AreRows ws (t ∷ ts) (o ∷ os) (b ∷ bs) (r ∷ rs) = IsRow ws t o b r × AreRows ws ts os bs rs
AreRows ws _ _ _ _ = ⊥

-- the rows of the group's threads, in table order
pub record IsRows (threads : List Thread) (waiting : List Waiting) (g : ℕ) (rows : RowsView) : Type 0 where
  pub each : AreRows waiting (filter (in_group g) threads) rows.own rows.blocked rows.runnable
  pub shared : IsWord rows.shared (queue_in (target.Group g) waiting)

-- the rows are those of the group in this table
abbrev pub RowsOf : Table → ℕ → RowsView → Type 0
RowsOf T g rows = IsRows T.threads T.waiting g rows
