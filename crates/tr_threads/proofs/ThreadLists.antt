-- A list of threads beside its ids.
use Rattle.std.proofs.Common.{◌≡◌, ◌==◌, ◌+◌, ◌<◌, ◌≤◌, ◌||◌, ℕ, zero, suc, List, [], ◌∷◌, Bool, true, false, if◌then◌else◌, length, map, get_or, take, arith, refl, eq-eqb, ◌&&◌, ◌∙◌, ◌++◌, not, Some, None, cond, filter, set, remove, ap, sym}
use Rattle.std.specs.List.{list_any}
use Rattle.std.proofs.lemmas.List.{take_more}
use Rattle.std.proofs.lemmas.Option.{none-some}
use Rattle.tr_tracee.specs.declared.thread.Thread.{Thread}
use Rattle.tr_tracee.specs.Lives.{is_dead}
use Rattle.tr_model.specs.Journals.{occurs}
use Rattle.tr_model.specs.Tables.{ids_of, thread_in}

-- numbers

pub new_at : (ns : List ℕ) (i d : ℕ) → i < length ns → ((n : ℕ) → occurs n ns ≤ 1) → list_any (λ n. n == get_or ns i d) (take i ns) ≡ false
new_at [] i d h once = absurd (omega (arith, h))
new_at (n ∷ ns) zero d h once = refl
new_at (n ∷ ns) (suc i) d h once = go (n == get_or ns i d) refl (new_at ns i d (omega (arith, h)) (λ k. omega (arith, once k)))
  where
    there : (ms : List ℕ) (j : ℕ) → j < length ms → 1 ≤ occurs (get_or ms j d) ms
    there [] j k = absurd (omega (arith, k))
    there (m ∷ ms) zero k = rw (eq-eqb m m refl) (omega arith)
    there (m ∷ ms) (suc j) k = omega (arith, there ms j (omega (arith, k)))

    go : (b : Bool) → (n == get_or ns i d) ≡ b → list_any (λ m. m == get_or ns i d) (take i ns) ≡ false → (b || list_any (λ m. m == get_or ns i d) (take i ns)) ≡ false
    go true e r = let x : (if true then 1 else 0) + occurs (get_or ns i d) ns ≤ 1 = (rw e at (once (get_or ns i d))) in absurd (omega (arith, x, there ns i (omega (arith, h))))
    go false e r = r

pub ids_written : (ts : List Thread) (i : ℕ) (d y : Thread) → y.id ≡ (get_or ts i d).id → i < length ts → ids_of (set ts i y) ≡ ids_of ts
ids_written [] i d y e h = refl
ids_written (t ∷ ts) zero d y e h = ap (λ (n : ℕ). n ∷ ids_of ts) e
ids_written (t ∷ ts) (suc i) d y e h = ap (λ (ns : List ℕ). t.id ∷ ns) (ids_written ts i d y e (omega (arith, h)))

pub ids_append : (ts us : List Thread) → ids_of (ts ++ us) ≡ ids_of ts ++ ids_of us
ids_append [] us = refl
ids_append (t ∷ ts) us = ap (λ (ns : List ℕ). t.id ∷ ns) (ids_append ts us)

pub ids_more : (ts : List Thread) (i : ℕ) (d : Thread) → i < length ts → ids_of (take (i + 1) ts) ≡ ids_of (take i ts) ++ (get_or ts i d).id ∷ []
ids_more ts i d h = ap ids_of (take_more ts i d h) ∙ ids_append (take i ts) (get_or ts i d ∷ [])

-- what came last goes again
pub last_removed : (ns : List ℕ) (n i : ℕ) → i ≡ length ns → remove (ns ++ n ∷ []) i ≡ ns
last_removed ns n i e = ap (λ (k : ℕ). remove (ns ++ n ∷ []) k) e ∙ go ns
  where
    go : (ms : List ℕ) → remove (ms ++ n ∷ []) (length ms) ≡ ms
    go [] = refl
    go (m ∷ ms) = ap (λ (ks : List ℕ). m ∷ ks) (go ms)

pub ids_removed : (ts : List Thread) (i : ℕ) → ids_of (remove ts i) ≡ remove (ids_of ts) i
ids_removed [] zero = refl
ids_removed [] (suc i) = refl
ids_removed (t ∷ ts) zero = refl
ids_removed (t ∷ ts) (suc i) = ap (λ (ns : List ℕ). t.id ∷ ns) (ids_removed ts i)

pub ids_mapped : (ts : List Thread) → ids_of ts ≡ map (λ t. t.id) ts
ids_mapped [] = refl
ids_mapped (t ∷ ts) = ap (λ (ns : List ℕ). t.id ∷ ns) (ids_mapped ts)

pub ids_length : (ts : List Thread) → length (ids_of ts) ≡ length ts
ids_length [] = refl
ids_length (t ∷ ts) = ap suc (ids_length ts)

-- no thread has the id, so the id isn't there
pub no_id : (ts : List Thread) (id : ℕ) → thread_in ts id ≡ None → list_any (λ n. n == id) (ids_of ts) ≡ false
no_id [] id e = refl
no_id (t ∷ ts) id e = go (t.id == id) e (no_id ts id)
  where
    go : (b : Bool) → cond b (Some t) (thread_in ts id) ≡ None → (thread_in ts id ≡ None → list_any (λ n. n == id) (ids_of ts) ≡ false) → (b || list_any (λ n. n == id) (ids_of ts)) ≡ false
    go true q r = absurd (none-some t (sym q))
    go false q r = r q

pub new_id_at : (ts : List Thread) (i : ℕ) (d : Thread) → i < length ts → ((n : ℕ) → occurs n (ids_of ts) ≤ 1) → list_any (λ n. n == (get_or ts i d).id) (ids_of (take i ts)) ≡ false
new_id_at ts i d h once =
    let ns : List ℕ = ids_of ts in
    let k : get_or ns i d.id ≡ (get_or ts i d).id = at ts i in
    ap (λ (m : List ℕ). list_any (λ n. n == (get_or ts i d).id) m) (taken i ts)
    ∙ (ap (λ (m : ℕ). list_any (λ n. n == m) (take i ns)) (sym k) ∙ new_at ns i d.id (omega (arith, h, ids_length ts)) once)
  where
    taken : (n : ℕ) (us : List Thread) → ids_of (take n us) ≡ take n (ids_of us)
    taken zero us = refl
    taken (suc n) [] = refl
    taken (suc n) (u ∷ us) = ap (λ (m : List ℕ). u.id ∷ m) (taken n us)

    at : (us : List Thread) (j : ℕ) → get_or (ids_of us) j d.id ≡ (get_or us j d).id
    at [] j = refl
    at (u ∷ us) zero = refl
    at (u ∷ us) (suc j) = at us j

-- a dead thread goes

-- what is left where the dead of the id go
abbrev pub left : ℕ → List Thread → List Thread
left id ts = filter (λ t. not (t.id == id && is_dead t.life)) ts

pub others_left : (id : ℕ) (ts : List Thread) → occurs id (ids_of ts) ≤ 0 → left id ts ≡ ts
others_left id [] h = refl
others_left id (t ∷ ts) h = go (t.id == id) h (others_left id ts)
  where
    go : (b : Bool) → (if b then 1 else 0) + occurs id (ids_of ts) ≤ 0 → (occurs id (ids_of ts) ≤ 0 → left id ts ≡ ts) → cond (not (b && is_dead t.life)) (t ∷ left id ts) (left id ts) ≡ t ∷ ts
    go true k r = absurd (omega (arith, k))
    go false k r = ap (λ us. t ∷ us) (r (omega (arith, k)))

pub none_goes : (id : ℕ) (ts : List Thread) → thread_in ts id ≡ None → left id ts ≡ ts
none_goes id [] e = refl
none_goes id (t ∷ ts) e = go (t.id == id) e (none_goes id ts)
  where
    go : (b : Bool) → cond b (Some t) (thread_in ts id) ≡ None → (thread_in ts id ≡ None → left id ts ≡ ts) → cond (not (b && is_dead t.life)) (t ∷ left id ts) (left id ts) ≡ t ∷ ts
    go true q r = absurd (none-some t (sym q))
    go false q r = ap (λ us. t ∷ us) (r q)

there : (id : ℕ) (ts : List Thread) (i : ℕ) (d : Thread) → i < length ts → (get_or ts i d).id ≡ id → 1 ≤ occurs id (ids_of ts)
there id [] i d h e = absurd (omega (arith, h))
there id (t ∷ ts) zero d h e = rw (eq-eqb t.id id e) (omega arith)
there id (t ∷ ts) (suc i) d h e = omega (arith, there id ts i d (omega (arith, h)) e)

pub dead_goes : (id : ℕ) (ts : List Thread) (i : ℕ) (d : Thread) → i < length ts → (get_or ts i d).id ≡ id → is_dead (get_or ts i d).life ≡ true → occurs id (ids_of ts) ≤ 1 → remove ts i ≡ left id ts
dead_goes id [] i d h e k once = absurd (omega (arith, h))
dead_goes id (t ∷ ts) zero d h e k once = go (t.id == id) (is_dead t.life) (eq-eqb t.id id e) k once
  where
    go : (b c : Bool) → b ≡ true → c ≡ true → (if b then 1 else 0) + occurs id (ids_of ts) ≤ 1 → ts ≡ cond (not (b && c)) (t ∷ left id ts) (left id ts)
    go true true p q o = sym (others_left id ts (omega (arith, o)))
    go true false p q o = cc
    go false c p q o = cc
dead_goes id (t ∷ ts) (suc i) d h e k once = go (t.id == id) once (dead_goes id ts i d (omega (arith, h)) e k)
  where
    go : (b : Bool) → (if b then 1 else 0) + occurs id (ids_of ts) ≤ 1 → (occurs id (ids_of ts) ≤ 1 → remove ts i ≡ left id ts) → t ∷ remove ts i ≡ cond (not (b && is_dead t.life)) (t ∷ left id ts) (left id ts)
    go true o r = absurd (omega (arith, o, there id ts i d (omega (arith, h)) e))
    go false o r = ap (λ us. t ∷ us) (r (omega (arith, o)))

pub living_stays : (id : ℕ) (ts : List Thread) (i : ℕ) (d : Thread) → i < length ts → (get_or ts i d).id ≡ id → is_dead (get_or ts i d).life ≡ false → occurs id (ids_of ts) ≤ 1 → left id ts ≡ ts
living_stays id [] i d h e k once = absurd (omega (arith, h))
living_stays id (t ∷ ts) zero d h e k once = go (t.id == id) (is_dead t.life) (eq-eqb t.id id e) k once
  where
    go : (b c : Bool) → b ≡ true → c ≡ false → (if b then 1 else 0) + occurs id (ids_of ts) ≤ 1 → cond (not (b && c)) (t ∷ left id ts) (left id ts) ≡ t ∷ ts
    go true true p q o = cc
    go true false p q o = ap (λ us. t ∷ us) (others_left id ts (omega (arith, o)))
    go false c p q o = cc
living_stays id (t ∷ ts) (suc i) d h e k once = go (t.id == id) once (living_stays id ts i d (omega (arith, h)) e k)
  where
    go : (b : Bool) → (if b then 1 else 0) + occurs id (ids_of ts) ≤ 1 → (occurs id (ids_of ts) ≤ 1 → left id ts ≡ ts) → cond (not (b && is_dead t.life)) (t ∷ left id ts) (left id ts) ≡ t ∷ ts
    go true o r = absurd (omega (arith, o, there id ts i d (omega (arith, h)) e))
    go false o r = ap (λ us. t ∷ us) (r (omega (arith, o)))
