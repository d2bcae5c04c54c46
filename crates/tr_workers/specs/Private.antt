-- What only private functions' contracts cite.
use Rattle.std.specs.Prelude.{◌≡◌, ℕ, ◌+◌, ◌-◌, ◌<◌, Bool, List, [], ◌∷◌, map, Some, MatchOption, slice_get, IsTrue}
use Rattle.std.specs.List.{All, list_all}
use Rattle.tr_starts.specs.Starts.{no_repeat}
use Rattle.tr_kernel.specs.States.{State}
use Rattle.tr_kernel.specs.declared.answers.Receipt.{Receipt}
use Rattle.tr_workers.specs.declared.scripts.Script.{Script}
use Rattle.tr_workers.specs.declared.receipts.Receipts.{Receipts}
use Rattle.tr_workers.specs.Runs.{IsDone}
use Rattle.tr_workers.specs.Settled.{entries_of, has_worker, IsReceiptOf, Match}

-- what a thread is to do: the script, as the worker of this number of the gate
pub record Task (G : Type 0) : Type 0 where
  pub gate : G
  pub worker : ℕ
  pub script : Script
  pub turns : ℕ

-- its parts in order
abbrev pub task : {G : Type 0} → G → ℕ → Script → ℕ → Task G
task gate worker script turns = record { gate = gate; worker = worker; script = script; turns = turns }

-- each script with so many turns, as the workers from this number on
abbrev pub tasks : {G : Type 0} → G → ℕ → List Script → ℕ → List (Task G)
tasks gate worker [] turns = []
tasks gate worker (s ∷ ss) turns = task gate worker s turns ∷ tasks gate (worker + 1) ss turns

-- each task is done, in order
abbrev pub AreKept : {G : Type 0} → (G → ℕ → ℕ → Bool → Type 0) → List (Task G) → List Receipts → Type 0
AreKept may [] [] = Unit {0}
AreKept may [] (r ∷ rs) = ⊥
AreKept may (t ∷ ts) [] = ⊥
AreKept may (t ∷ ts) (r ∷ rs) = IsDone (may t.gate t.worker) t.turns t.script r × AreKept may ts rs

-- Receipts in their places

-- a receipt is of the entry at its position, and that is this actor's
abbrev pub IsOfActor : State → ℕ → Receipt → Type 0
IsOfActor k actor r =
    MatchOption (slice_get k.journal (r.position - 1)) ⊥ (λ e.
    (e.actor ≡ actor) × (e.event ≡ r.event) × (slice_get k.replies (r.position - 1) ≡ Some r.reply))

-- receipts are of entries of this actor behind the first so many, each behind the one before it
abbrev pub AreInOrder : State → ℕ → ℕ → List Receipt → Type 0
AreInOrder k actor before [] = Unit {0}
AreInOrder k actor before (r ∷ rs) = (before < r.position) × IsOfActor k actor r × AreInOrder k actor r.position rs

-- the receipts of a worker are of all entries of its actor
abbrev pub IsInPlace : State → Receipts → Type 0
IsInPlace k w = Match IsReceiptOf (entries_of w.actor k.replies 0 k.journal) w.list

-- so are those of each worker, no two workers are of one actor, and every entry's actor has a worker
pub record AreInPlace (k : State) (ws : List Receipts) : Type 0 where
  pub receipts : All (IsInPlace k) ws
  pub distinct : IsTrue (no_repeat (map (λ w. w.actor) ws))
  pub entries : IsTrue (list_all (λ e. has_worker ws e.actor) k.journal)
