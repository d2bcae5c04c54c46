-- What workers hand back.
use Rattle.std.specs.Prelude.{◌≡◌, ℕ, ◌+◌, Bool, List, [], ◌∷◌, length}
use Rattle.tr_workers.specs.declared.scripts.Script.{Script}
use Rattle.tr_workers.specs.declared.receipts.Receipts.{Receipts}
use Rattle.tr_workers.specs.Follows.{Follows}
use Rattle.tr_workers.specs.Tallies.{accepted_of, refused_of}
use Rattle.tr_workers.specs.Turns.{HasTurns}

-- its answers follow its script for some number of calls, which with the noes of the gate stay within the turns, and are
-- all of them where it ran out of turns; and its counts and sums are those of its answers
pub record IsDone (may : ℕ → Bool → Type 0) (turns : ℕ) (script : Script) (r : Receipts) : Type 0 where
  pub actor : r.actor ≡ script.actor
  pub calls : ℕ
  pub within : HasTurns may calls turns r.outcome
  pub follows : Follows script.plan calls r.list r.told r.outcome
  pub entries : r.entries ≡ length r.list
  pub accepted : r.accepted ≡ accepted_of r.list
  pub refused : r.refused ≡ refused_of r.told

-- each script is done, in order: to the gate the first is the worker of this number, each other the one of the next
abbrev pub AreDone : (ℕ → ℕ → Bool → Type 0) → ℕ → ℕ → List Script → List Receipts → Type 0
AreDone may turns worker [] [] = Unit {0}
AreDone may turns worker [] (r ∷ rs) = ⊥
AreDone may turns worker (s ∷ ss) [] = ⊥
AreDone may turns worker (s ∷ ss) (r ∷ rs) = IsDone (may worker) turns s r × AreDone may turns (worker + 1) ss rs
