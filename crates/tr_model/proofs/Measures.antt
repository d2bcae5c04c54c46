-- A measure summed over the threads, and what the moves make of it.
use Rattle.std.proofs.Common.{◌≡◌, ℕ, ◌+◌, ◌≤◌, List, [], ◌∷◌, ◌++◌, true, false, Some, None, refl, sym, ap, map, filter, Bool, not, ◌&&◌, ◌==◌, if◌then◌else◌, arith, cond, true≢false}
use Rattle.std.proofs.lemmas.Bool.{and_parts}
use Rattle.std.proofs.lemmas.Option.{none-some, same_Some}
use Rattle.tr_tracee.specs.declared.life.Life.{Life}
use Rattle.tr_tracee.specs.declared.life.Life.TheVariants as life
use Rattle.tr_tracee.specs.declared.thread.Thread.{Thread}
use Rattle.tr_tracee.specs.Lives.{held}
use Rattle.tr_tracee.specs.Lives
use Rattle.tr_model.specs.Moves
use Rattle.tr_model.specs.Tables
use Rattle.tr_tracee.specs.Stops as TraceeStops

-- the sum of a measure
abbrev pub total : (Thread → ℕ) → List Thread → ℕ
total m [] = 0
total m (t ∷ ts) = m t + total m ts

pub total-append : (m : Thread → ℕ) (xs ys : List Thread) → total m (xs ++ ys) ≡ total m xs + total m ys
total-append m [] ys = omega arith
total-append m (x ∷ xs) ys = omega (arith, total-append m xs ys)

pub total_changed : (m : Thread → ℕ) (id : ℕ) (f : Thread → Thread) (t : Thread) (ts : List Thread) → Tables.thread_in ts id ≡ Some t → total m (Moves.changed id f ts) + m t ≡ total m ts + m (f t)
total_changed m id f t [] e = absurd (none-some t e)
total_changed m id f t (x ∷ ts) e = go (x.id == id) e (total_changed m id f t ts)
  where
    go : (b : Bool) → (if b then Some x else Tables.thread_in ts id) ≡ Some t
        → (Tables.thread_in ts id ≡ Some t → total m (Moves.changed id f ts) + m t ≡ total m ts + m (f t))
        → total m (if b then f x ∷ ts else x ∷ Moves.changed id f ts) + m t ≡ (m x + total m ts) + m (f t)
    go true e ih = let xt = same_Some x t e in omega (arith, ap m xt, ap (λ (y : Thread). m (f y)) xt)
    go false e ih = omega (arith, ih e)

pub total_dropped : (m : Thread → ℕ) (id : ℕ) (t : Thread) (ts : List Thread) → Tables.thread_in ts id ≡ Some t → total m (Moves.dropped id ts) + m t ≡ total m ts
total_dropped m id t [] e = absurd (none-some t e)
total_dropped m id t (x ∷ ts) e = go (x.id == id) e (total_dropped m id t ts)
  where
    go : (b : Bool) → (if b then Some x else Tables.thread_in ts id) ≡ Some t
        → (Tables.thread_in ts id ≡ Some t → total m (Moves.dropped id ts) + m t ≡ total m ts)
        → total m (if b then ts else x ∷ Moves.dropped id ts) + m t ≡ m x + total m ts
    go true e ih = omega (arith, ap m (same_Some x t e))
    go false e ih = omega (arith, ih e)

-- a measure that is the same after f
pub total_same : (m : Thread → ℕ) (f : Thread → Thread) → ((t : Thread) → m (f t) ≡ m t) → (ts : List Thread) → total m (map f ts) ≡ total m ts
total_same m f h [] = refl
total_same m f h (t ∷ ts) = omega (arith, h t, total_same m f h ts)

-- and one that doesn't grow
pub total_less : (m : Thread → ℕ) (f : Thread → Thread) → ((t : Thread) → m (f t) ≤ m t) → (ts : List Thread) → total m (map f ts) ≤ total m ts
total_less m f h [] = omega arith
total_less m f h (t ∷ ts) = omega (arith, h t, total_less m f h ts)

pub total_filter : (m : Thread → ℕ) (p : Thread → Bool) (ts : List Thread) → total m (filter p ts) ≤ total m ts
total_filter m p [] = omega arith
total_filter m p (t ∷ ts) = go (p t) (total_filter m p ts)
  where
    go : (b : Bool) → total m (filter p ts) ≤ total m ts → total m (cond b (t ∷ filter p ts) (filter p ts)) ≤ m t + total m ts
    go true ih = omega (arith, ih)
    go false ih = omega (arith, ih)

-- dead threads that are removed, where the measure is 0
pub total_removed : (m : Thread → ℕ) → ((t : Thread) → Lives.is_dead t.life ≡ true → m t ≡ 0) → (p : Thread → Bool) (ts : List Thread) → total m (filter (λ t. not (p t && Lives.is_dead t.life)) ts) ≡ total m ts
total_removed m z p [] = refl
total_removed m z p (t ∷ ts) = go (p t && Lives.is_dead t.life) refl (total_removed m z p ts)
  where
    go : (b : Bool) → (p t && Lives.is_dead t.life) ≡ b → total m (filter (λ t. not (p t && Lives.is_dead t.life)) ts) ≡ total m ts
        → total m (cond (not b) (t ∷ filter (λ t. not (p t && Lives.is_dead t.life)) ts) (filter (λ t. not (p t && Lives.is_dead t.life)) ts)) ≡ m t + total m ts
    go true e ih = omega (arith, ih, z t (and_parts _ _ e).1)
    go false e ih = omega (arith, ih)

-- Lives

pub may_enter_holds : (l : Life) → TraceeStops.may_enter l ≡ true → held l ≡ None
may_enter_holds (life.InStop s) e = absurd (true≢false (sym e))
may_enter_holds _ e = refl

pub free_may : (l : Life) → Lives.is_free l ≡ true → TraceeStops.may_enter l ≡ true
free_may life.Free e = refl
free_may life.Stopped e = refl
free_may life.Listening e = refl
free_may (life.InStop s) e = absurd (true≢false (sym e))
free_may (life.Leaving s told) e = absurd (true≢false (sym e))
free_may (life.Dead s) e = absurd (true≢false (sym e))
free_may life.Execing e = absurd (true≢false (sym e))

pub dead_holds : (l : Life) → Lives.is_dead l ≡ true → held l ≡ None
dead_holds (life.InStop s) e = absurd (true≢false (sym e))
dead_holds _ e = refl

pub execing_holds : (l : Life) → Lives.is_execing l ≡ true → held l ≡ None
execing_holds (life.InStop s) e = absurd (true≢false (sym e))
execing_holds _ e = refl
