-- Lists of waiting instances in order of acceptance, and what keeps the order.
use Rattle.std.proofs.Common.{◌≡◌, ◌≤◌, ◌<◌, ◌+◌, ◌==◌, ℕ, List, [], ◌∷◌, ◌++◌, Bool, true, false, cond, if◌then◌else◌, map, arith}
use Rattle.std.specs.Prelude.{filter}
use Rattle.tr_pending.specs.declared.instance.Instance.{Instance}
use Rattle.tr_model.specs.declared.rows.Waiting.{Waiting}
use Rattle.tr_model.specs.Journals.{AllAbove, AllUpTo, IsSorted}
use Rattle.tr_model.specs.Moves.{retargeted, without_instance}

-- Filters

pub above_filter : (p : Waiting → Bool) (n : ℕ) (qs : List Waiting) → AllAbove n qs → AllAbove n (filter p qs)
above_filter p n [] h = tt
above_filter p n (q ∷ qs) h = elim (p q) as (λ b. AllAbove n (cond b (q ∷ filter p qs) (filter p qs))) [ true ↦ (h.0, above_filter p n qs h.1) | false ↦ above_filter p n qs h.1 ]

pub sorted_filter : (p : Waiting → Bool) (qs : List Waiting) → IsSorted qs → IsSorted (filter p qs)
sorted_filter p [] h = tt
sorted_filter p (q ∷ qs) h = elim (p q) as (λ b. IsSorted (cond b (q ∷ filter p qs) (filter p qs))) [ true ↦ (above_filter p q.instance.n qs h.0, sorted_filter p qs h.1) | false ↦ sorted_filter p qs h.1 ]

-- One less

above_less : (m n : ℕ) (qs : List Waiting) → AllAbove n qs → AllAbove n (without_instance m qs)
above_less m n [] h = tt
above_less m n (q ∷ qs) h = elim (q.instance.n == m) as (λ b. AllAbove n (if b then qs else q ∷ without_instance m qs)) [ true ↦ h.1 | false ↦ (h.0, above_less m n qs h.1) ]

pub sorted_less : (m : ℕ) (qs : List Waiting) → IsSorted qs → IsSorted (without_instance m qs)
sorted_less m [] h = tt
sorted_less m (q ∷ qs) h = elim (q.instance.n == m) as (λ b. IsSorted (if b then qs else q ∷ without_instance m qs)) [ true ↦ h.1 | false ↦ (above_less m q.instance.n qs h.0, sorted_less m qs h.1) ]

-- One more, with a greater number than all

pub above_more : (n : ℕ) (qs : List Waiting) (q : Waiting) → AllAbove n qs → n < q.instance.n → AllAbove n (qs ++ q ∷ [])
above_more n [] q h k = (k, tt)
above_more n (x ∷ qs) q h k = (h.0, above_more n qs q h.1 k)

pub sorted_more : (n : ℕ) (qs : List Waiting) (q : Waiting) → IsSorted qs → AllUpTo n qs → q.instance.n ≡ n + 1 → IsSorted (qs ++ q ∷ [])
sorted_more n [] q h k e = (tt, tt)
sorted_more n (x ∷ qs) q h k e = (above_more x.instance.n qs q h.0 (omega (arith, k.0, e)), sorted_more n qs q h.1 k.1 e)

pub up_to_more : (n : ℕ) (qs : List Waiting) (q : Waiting) → AllUpTo n qs → q.instance.n ≡ n + 1 → AllUpTo (n + 1) (qs ++ q ∷ [])
up_to_more n [] q k e = (omega (arith, e), tt)
up_to_more n (x ∷ qs) q k e = (omega (arith, k.0), up_to_more n qs q k.1 e)

pub up_to_later : (n m : ℕ) (qs : List Waiting) → n ≤ m → AllUpTo n qs → AllUpTo m qs
up_to_later n m [] h k = tt
up_to_later n m (q ∷ qs) h k = (omega (arith, h, k.0), up_to_later n m qs h k.1)

pub up_to_filter : (p : Waiting → Bool) (n : ℕ) (qs : List Waiting) → AllUpTo n qs → AllUpTo n (filter p qs)
up_to_filter p n [] h = tt
up_to_filter p n (q ∷ qs) h = elim (p q) as (λ b. AllUpTo n (cond b (q ∷ filter p qs) (filter p qs))) [ true ↦ (h.0, up_to_filter p n qs h.1) | false ↦ up_to_filter p n qs h.1 ]

pub up_to_less : (m n : ℕ) (qs : List Waiting) → AllUpTo n qs → AllUpTo n (without_instance m qs)
up_to_less m n [] h = tt
up_to_less m n (q ∷ qs) h = elim (q.instance.n == m) as (λ b. AllUpTo n (if b then qs else q ∷ without_instance m qs)) [ true ↦ h.1 | false ↦ (h.0, up_to_less m n qs h.1) ]

-- Queues passed on

above_retargeted : (from to n : ℕ) (qs : List Waiting) → AllAbove n qs → AllAbove n (map (retargeted from to) qs)
above_retargeted from to n [] h = tt
above_retargeted from to n (q ∷ qs) h = (h.0, above_retargeted from to n qs h.1)

pub sorted_retargeted : (from to : ℕ) (qs : List Waiting) → IsSorted qs → IsSorted (map (retargeted from to) qs)
sorted_retargeted from to [] h = tt
sorted_retargeted from to (q ∷ qs) h = (above_retargeted from to q.instance.n qs h.0, sorted_retargeted from to qs h.1)

pub up_to_retargeted : (from to n : ℕ) (qs : List Waiting) → AllUpTo n qs → AllUpTo n (map (retargeted from to) qs)
up_to_retargeted from to n [] h = tt
up_to_retargeted from to n (q ∷ qs) h = (h.0, up_to_retargeted from to n qs h.1)

-- The instances of one queue

abbrev pub Past : ℕ → List Instance → Type 0
Past n [] = Unit {0}
Past n (i ∷ is) = (n < i.n) × Past n is

abbrev pub InOrder : List Instance → Type 0
InOrder [] = Unit {0}
InOrder (i ∷ is) = Past i.n is × InOrder is

abbrev instances : List Waiting → List Instance
instances qs = map (λ w. w.instance) qs

past_instances : (n : ℕ) (qs : List Waiting) → AllAbove n qs → Past n (instances qs)
past_instances n [] h = tt
past_instances n (q ∷ qs) h = (h.0, past_instances n qs h.1)

pub sorted_instances : (qs : List Waiting) → IsSorted qs → InOrder (instances qs)
sorted_instances [] h = tt
sorted_instances (q ∷ qs) h = (past_instances q.instance.n qs h.0, sorted_instances qs h.1)

past_filter : (p : Instance → Bool) (n : ℕ) (is : List Instance) → Past n is → Past n (filter p is)
past_filter p n [] h = tt
past_filter p n (i ∷ is) h = elim (p i) as (λ b. Past n (cond b (i ∷ filter p is) (filter p is))) [ true ↦ (h.0, past_filter p n is h.1) | false ↦ past_filter p n is h.1 ]

pub in_order_filter : (p : Instance → Bool) (is : List Instance) → InOrder is → InOrder (filter p is)
in_order_filter p [] h = tt
in_order_filter p (i ∷ is) h = elim (p i) as (λ b. InOrder (cond b (i ∷ filter p is) (filter p is))) [ true ↦ (past_filter p i.n is h.0, in_order_filter p is h.1) | false ↦ in_order_filter p is h.1 ]
