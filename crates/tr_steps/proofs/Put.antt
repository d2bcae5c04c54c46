-- The record of one thread that changes, and what it held.
use Rattle.std.proofs.Common.{◌≡◌, ℕ, ◌+◌, ◌==◌, List, [], ◌∷◌, ◌++◌, Bool, true, false, Option, Some, None, if◌then◌else◌, is_some, refl, sym, arith}
use Rattle.std.proofs.lemmas.Option.{none-some, same_Some}
use Rattle.std.specs.Prelude.{IfSome}
use Rattle.tr_pending.specs.declared.instance.Instance.{Instance}
use Rattle.tr_tracee.specs.declared.thread.Thread.{Thread}
use Rattle.tr_tracee.specs.Lives.{held}
use Rattle.tr_tracee.specs.Stops.{listening, listening_life, restarted, restarted_life}
use Rattle.tr_model.specs.declared.fates.Fate.{Fate}
use Rattle.tr_model.specs.Moves.{changed, ended_by_change, ended_hold}
use Rattle.tr_model.specs.Tables.{Table, thread_in, thread_of}
use Rattle.tr_model.proofs.Calm.{listening_holds, restarted_holds}
use Rattle.tr_model.proofs.Kept.{itself}
use Rattle.tr_index.specs.Counts.{bool_to_nat}
use Rattle.tr_threads.specs.Held.{held_count}

pub helds_put : (id : ℕ) (f : Thread → Thread) (ts : List Thread) (t : Thread) → thread_in ts id ≡ Some t → held_count (changed id f ts) + bool_to_nat (is_some (held t.life)) ≡ held_count ts + bool_to_nat (is_some (held (f t).life))
helds_put id f [] t e = absurd (none-some t e)
helds_put id f (x ∷ xs) t e = go (x.id == id) e (helds_put id f xs t)
  where
    go : (b : Bool) → (if b then Some x else thread_in xs id) ≡ Some t → (thread_in xs id ≡ Some t → held_count (changed id f xs) + bool_to_nat (is_some (held t.life)) ≡ held_count xs + bool_to_nat (is_some (held (f t).life)))
        → held_count (if b then f x ∷ xs else x ∷ changed id f xs) + bool_to_nat (is_some (held t.life)) ≡ (bool_to_nat (is_some (held x.life)) + held_count xs) + bool_to_nat (is_some (held (f t).life))
    go true q r = rw (sym (same_Some x t q)) (omega arith)
    go false q r = let h = r q in omega (arith, h)

pub helds_restarted : (ts : List Thread) (t : Thread) → thread_in ts t.id ≡ Some t → held_count (changed t.id restarted ts) + bool_to_nat (is_some (held t.life)) ≡ held_count ts
helds_restarted ts t e = let h = helds_put t.id restarted ts t e in let q : bool_to_nat (is_some (held (restarted_life t.life))) ≡ 0 = rw (restarted_holds t.life) refl in omega (arith, h, q)

pub ends_restarted : (fate : Fate) (t : Thread) → ended_by_change fate restarted t ≡ ended_hold fate (held t.life) None
ends_restarted fate t = rw (restarted_holds t.life) refl

no_endings : (fate : Fate) (o : Option Instance) → ended_hold fate o o ≡ []
no_endings fate None = refl
no_endings fate (Some i) = refl

-- a thread that listens gives up nothing
pub ends_listening : (fate : Fate) (t : Thread) → ended_by_change fate listening t ≡ []
ends_listening fate t = rw (listening_holds t.life) (no_endings fate (held t.life))

pub helds_listening : (ts : List Thread) (t : Thread) → thread_in ts t.id ≡ Some t → held_count (changed t.id listening ts) ≡ held_count ts
helds_listening ts t e = let h = helds_put t.id listening ts t e in let q : bool_to_nat (is_some (held (listening_life t.life))) ≡ bool_to_nat (is_some (held t.life)) = rw (listening_holds t.life) refl in omega (arith, h, q)

-- a thread that comes last and holds nothing
pub helds_added : (t : Thread) (ts : List Thread) → held t.life ≡ None → held_count (ts ++ t ∷ []) ≡ held_count ts
helds_added t [] e = rw e refl
helds_added t (x ∷ xs) e = omega (arith, helds_added t xs e)

-- a thread that is found by an id is found by its own

pub found_own : (T : Table) (id : ℕ) (o : Option Thread) → o ≡ thread_of T id → IfSome o (λ t. thread_of T t.id ≡ Some t)
found_own T id None e = tt
found_own T id (Some t) e = itself T.threads id t (sym e)
