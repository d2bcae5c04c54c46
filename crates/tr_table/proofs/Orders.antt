-- Numbers of what waits, with one less or one more.
use Rattle.std.proofs.Common.{◌+◌, ◌≤◌, ℕ, List, [], ◌∷◌, ◌++◌, true, false, if◌then◌else◌, arith}
use Rattle.tr_model.specs.declared.rows.Target.{Target}
use Rattle.tr_model.specs.declared.rows.Waiting.{Waiting}
use Rattle.tr_model.specs.Journals.{AllUpTo}
use Rattle.tr_queues.specs.Queues.{AllBelow, is_one, without_one}

-- without the first of one signal

pub up_to_without : (t : Target) (s n : ℕ) (qs : List Waiting) → AllUpTo n qs → AllUpTo n (without_one t s qs)
up_to_without t s n [] h = tt
up_to_without t s n (q ∷ qs) h = elim (is_one t s q) as (λ b. AllUpTo n (if b then qs else q ∷ without_one t s qs)) [ true ↦ h.1 | false ↦ (h.0, up_to_without t s n qs h.1) ]

pub up_to_last : (n : ℕ) (qs : List Waiting) (q : Waiting) → AllUpTo n qs → q.instance.n ≤ n → AllUpTo n (qs ++ q ∷ [])
up_to_last n [] q h k = (k, tt)
up_to_last n (x ∷ qs) q h k = (h.0, up_to_last n qs q h.1 k)

-- what waits is below the next number
pub below_next : (n : ℕ) (qs : List Waiting) → AllUpTo n qs → AllBelow (n + 1) qs
below_next n [] h = tt
below_next n (q ∷ qs) h = (omega (arith, h.0), below_next n qs h.1)
