-- What an edit of a list makes of the ids of those that pass a test, and how many of these stand before a place.
use Rattle.std.proofs.Common.{◌≡◌, ◌==◌, ◌||◌, ◌+◌, ◌<◌, ◌≤◌, ◌∙◌, ◌⊎◌, inl, inr, ℕ, zero, suc, List, [], ◌∷◌, ◌++◌, Bool, true, false, Option, Some, None, cond, if◌then◌else◌, filter, length, map, nat_lt, set, get_or, remove, take, arith, refl, ap, sym, eq-eqb}
use Rattle.std.specs.List.{insert, list_any, position}
use Rattle.std.proofs.lemmas.Bool.{cases_lt, le-ltb, lt-ltb, ne_eqb}
use Rattle.tr_tracee.specs.declared.thread.Thread.{Thread}
use Rattle.tr_model.specs.Journals.{occurs}
use Rattle.tr_model.specs.Tables.{ids_of}
use Rattle.tr_index.specs.Counts.{bool_to_nat}
use Rattle.tr_index.proofs.Places.{by_place, first}
use Rattle.tr_threads.specs.TraceeLists.{is_before}
use Rattle.tr_threads.proofs.Parted.{Parts}
use Rattle.tr_threads.proofs.Rostering.{occurs_in}

-- the id comes to those listed, as the one after k of them, or the one there goes, or neither
abbrev pub edited : Bool → Bool → ℕ → ℕ → List ℕ → List ℕ
edited true false k id ns = remove ns k
edited false true k id ns = insert ns k id
edited _ _ k id ns = ns

pub edited_alike : (was is : Bool) → was ≡ is → (k id : ℕ) (ns : List ℕ) → edited was is k id ns ≡ ns
edited_alike true true e k id ns = refl
edited_alike false false e k id ns = refl
edited_alike true false e k id ns = cc
edited_alike false true e k id ns = cc

module _ {X : Type 0} (id : X → ℕ) (p : X → Bool) where
  -- one more stands before
  pushed : (b was is : Bool) (n : ℕ) (x : X) (us vs ws : List X) → edited was is (length vs) n (map id us) ≡ map id ws → edited was is (length (cond b (x ∷ vs) vs)) n (map id (cond b (x ∷ us) us)) ≡ map id (cond b (x ∷ ws) ws)
  pushed false was is n x us vs ws r = r
  pushed true true false n x us vs ws r = ap (λ (ns : List ℕ). id x ∷ ns) r
  pushed true false true n x us vs ws r = ap (λ (ns : List ℕ). id x ∷ ns) r
  pushed true true true n x us vs ws r = ap (λ (ns : List ℕ). id x ∷ ns) r
  pushed true false false n x us vs ws r = ap (λ (ns : List ℕ). id x ∷ ns) r

  pub list_written : (xs : List X) (i : ℕ) (d y : X) → i < length xs → id y ≡ id (get_or xs i d) → edited (p (get_or xs i d)) (p y) (length (filter p (take i xs))) (id y) (map id (filter p xs)) ≡ map id (filter p (set xs i y))
  list_written [] i d y l e = absurd (omega (arith, l))
  list_written (x ∷ xs) zero d y l e = go (p x) (p y)
    where
      go : (a b : Bool) → edited a b 0 (id y) (map id (cond a (x ∷ filter p xs) (filter p xs))) ≡ map id (cond b (y ∷ filter p xs) (filter p xs))
      go true true = ap (λ (n : ℕ). n ∷ map id (filter p xs)) (sym e)
      go true false = refl
      go false true = refl
      go false false = refl
  list_written (x ∷ xs) (suc i) d y l e = pushed (p x) (p (get_or xs i d)) (p y) (id y) x (filter p xs) (filter p (take i xs)) (filter p (set xs i y)) (list_written xs i d y (omega (arith, l)) e)

  pub list_gone : (xs : List X) (i : ℕ) (d : X) (n : ℕ) → i < length xs → edited (p (get_or xs i d)) false (length (filter p (take i xs))) n (map id (filter p xs)) ≡ map id (filter p (remove xs i))
  list_gone [] i d n l = absurd (omega (arith, l))
  list_gone (x ∷ xs) zero d n l = go (p x)
    where
      go : (a : Bool) → edited a false 0 n (map id (cond a (x ∷ filter p xs) (filter p xs))) ≡ map id (filter p xs)
      go true = refl
      go false = refl
  list_gone (x ∷ xs) (suc i) d n l = pushed (p x) (p (get_or xs i d)) false n x (filter p xs) (filter p (take i xs)) (filter p (remove xs i)) (list_gone xs i d n (omega (arith, l)))

  pub list_put : (xs : List X) (i : ℕ) (y : X) → edited false (p y) (length (filter p (take i xs))) (id y) (map id (filter p xs)) ≡ map id (filter p (insert xs i y))
  list_put [] zero y = alone (p y)
    where
      alone : (b : Bool) → edited false b 0 (id y) [] ≡ map id (cond b (y ∷ []) [])
      alone true = refl
      alone false = refl
  list_put [] (suc i) y = alone (p y)
    where
      alone : (b : Bool) → edited false b 0 (id y) [] ≡ map id (cond b (y ∷ []) [])
      alone true = refl
      alone false = refl
  list_put (x ∷ xs) zero y = go (p y)
    where
      go : (b : Bool) → edited false b 0 (id y) (map id (filter p (x ∷ xs))) ≡ map id (cond b (y ∷ filter p (x ∷ xs)) (filter p (x ∷ xs)))
      go true = refl
      go false = refl
  list_put (x ∷ xs) (suc i) y = pushed (p x) false (p y) (id y) x (filter p xs) (filter p (take i xs)) (filter p (insert xs i y)) (list_put xs i y)

  pub list_added : (xs : List X) (y : X) → map id (filter p (xs ++ y ∷ [])) ≡ (if p y then map id (filter p xs) ++ id y ∷ [] else map id (filter p xs))
  list_added [] y = go (p y)
    where
      go : (b : Bool) → map id (cond b (y ∷ []) []) ≡ (if b then id y ∷ [] else [])
      go true = refl
      go false = refl
  list_added (x ∷ xs) y = go (p x) (p y) (list_added xs y)
    where
      go : (a b : Bool) → map id (filter p (xs ++ y ∷ [])) ≡ (if b then map id (filter p xs) ++ id y ∷ [] else map id (filter p xs))
          → map id (cond a (x ∷ filter p (xs ++ y ∷ [])) (filter p (xs ++ y ∷ []))) ≡ (if b then map id (cond a (x ∷ filter p xs) (filter p xs)) ++ id y ∷ [] else map id (cond a (x ∷ filter p xs) (filter p xs)))
      go true true r = ap (λ (ns : List ℕ). id x ∷ ns) r
      go true false r = ap (λ (ns : List ℕ). id x ∷ ns) r
      go false b r = r

-- how many of those that pass stand before a place

-- an id that isn't listed makes no difference
aside : (m : ℕ) (f : ℕ → Bool) (xs : List ℕ) (n : ℕ) → occurs m xs ≤ 0 → Parts f xs n → Parts (λ x. (m == x) || f x) xs n
aside m f [] n none h = h
aside m f (x ∷ xs) zero none h = (ap (λ b. b || f x) (other m x xs none) ∙ h.0, aside m f xs zero (omega (arith, none)) h.1)
  where
    other : (m x : ℕ) (xs : List ℕ) → occurs m (x ∷ xs) ≤ 0 → (m == x) ≡ false
    other m x xs none = ne_eqb m x (λ e. omega (arith, none, ap {B = ℕ} (λ (b : Bool). if b then 1 else 0) (eq-eqb x m (sym e))))
aside m f (x ∷ xs) (suc n) none h = (ap (λ b. b || f x) (other m x xs none) ∙ h.0, aside m f xs n (omega (arith, none)) h.1)
  where
    other : (m x : ℕ) (xs : List ℕ) → occurs m (x ∷ xs) ≤ 0 → (m == x) ≡ false
    other m x xs none = ne_eqb m x (λ e. omega (arith, none, ap {B = ℕ} (λ (b : Bool). if b then 1 else 0) (eq-eqb x m (sym e))))

nothing_before : (xs : List ℕ) → Parts (λ _. false) xs 0
nothing_before [] = refl
nothing_before (x ∷ xs) = (refl, nothing_before xs)

module _ (p : Thread → Bool) where
  pub ranked : (ts : List Thread) (i : ℕ) → ((n : ℕ) → occurs n (ids_of ts) ≤ 1) → Parts (is_before (ids_of ts) i) (ids_of (filter p ts)) (length (filter p (take i ts)))
  ranked [] i once = go i
    where
      go : (i : ℕ) → length (filter p (take i [])) ≡ 0
      go zero = refl
      go (suc i) = refl
  ranked (t ∷ ts) zero once = nothing_before (ids_of (filter p (t ∷ ts)))
  ranked (t ∷ ts) (suc i) once = go (p t) (aside t.id (is_before (ids_of ts) i) (ids_of (filter p ts)) (length (filter p (take i ts))) (omega (arith, left, occurs_in t.id p ts)) (ranked ts i (λ n. omega (arith, once n))))
    where
      left : occurs t.id (ids_of ts) ≤ 0
      left = omega (arith, once t.id, ap {B = ℕ} (λ (b : Bool). if b then 1 else 0) (eq-eqb t.id t.id refl))

      go : (b : Bool) → Parts (λ x. (t.id == x) || is_before (ids_of ts) i x) (ids_of (filter p ts)) (length (filter p (take i ts)))
          → Parts (λ x. (t.id == x) || is_before (ids_of ts) i x) (ids_of (cond b (t ∷ filter p ts) (filter p ts))) (length (cond b (t ∷ filter p (take i ts)) (filter p (take i ts))))
      go true r = (ap (λ b. b || is_before (ids_of ts) i t.id) (eq-eqb t.id t.id refl), r)
      go false r = r

  pub within_kept : (ts : List Thread) (i : ℕ) (d : Thread) → i < length ts → length (filter p (take i ts)) + bool_to_nat (p (get_or ts i d)) ≤ length (ids_of (filter p ts))
  within_kept [] i d l = absurd (omega (arith, l))
  within_kept (t ∷ ts) zero d l = go (p t)
    where
      go : (b : Bool) → 0 + bool_to_nat b ≤ length (ids_of (cond b (t ∷ filter p ts) (filter p ts)))
      go true = omega arith
      go false = omega arith
  within_kept (t ∷ ts) (suc i) d l = go (p t) (within_kept ts i d (omega (arith, l)))
    where
      go : (b : Bool) → length (filter p (take i ts)) + bool_to_nat (p (get_or ts i d)) ≤ length (ids_of (filter p ts))
          → length (cond b (t ∷ filter p (take i ts)) (filter p (take i ts))) + bool_to_nat (p (get_or ts i d)) ≤ length (ids_of (cond b (t ∷ filter p ts) (filter p ts)))
      go true r = omega (arith, r)
      go false r = omega (arith, r)

-- whether the place of an id comes before another

lt_next : (n i : ℕ) → nat_lt (suc n) (suc i) ≡ nat_lt n i
lt_next n i = go (cases_lt n i)
  where
    go : (n < i) ⊎ (i ≤ n) → nat_lt (suc n) (suc i) ≡ nat_lt n i
    go (inl l) = lt-ltb (suc n) (suc i) (omega (arith, l)) ∙ sym (lt-ltb n i l)
    go (inr l) = le-ltb (suc n) (suc i) (omega (arith, l)) ∙ sym (le-ltb n i l)

first_before : (p : ℕ → Bool) (ns : List ℕ) (i : ℕ) → first p ns < length ns → nat_lt (first p ns) i ≡ list_any p (take i ns)
first_before p [] i l = absurd (omega (arith, l))
first_before p (n ∷ ns) zero l = le-ltb (first p (n ∷ ns)) 0 (omega arith)
first_before p (n ∷ ns) (suc i) l = go (p n) l (first_before p ns i)
  where
    go : (b : Bool) → (if b then 0 else suc (first p ns)) < suc (length ns) → (first p ns < length ns → nat_lt (first p ns) i ≡ list_any p (take i ns)) → nat_lt (if b then 0 else suc (first p ns)) (suc i) ≡ (b || list_any p (take i ns))
    go true k r = lt-ltb 0 (suc i) (omega arith)
    go false k r = lt_next (first p ns) i ∙ r (omega (arith, k))

none_before : (p : ℕ → Bool) (ns : List ℕ) (i : ℕ) → length ns ≤ first p ns → false ≡ list_any p (take i ns)
none_before p [] zero l = refl
none_before p [] (suc i) l = refl
none_before p (n ∷ ns) zero l = refl
none_before p (n ∷ ns) (suc i) l = go (p n) l (none_before p ns i)
  where
    go : (b : Bool) → suc (length ns) ≤ (if b then 0 else suc (first p ns)) → (length ns ≤ first p ns → false ≡ list_any p (take i ns)) → false ≡ (b || list_any p (take i ns))
    go true k r = absurd (omega (arith, k))
    go false k r = r (omega (arith, k))

-- whether it does, as the code tells
abbrev pub comes_before : ℕ → Option ℕ → Bool
comes_before i None = false
comes_before i (Some k) = nat_lt k i

pub place_before : (id i : ℕ) (ids : List ℕ) (r : Option ℕ) → r ≡ position (λ n. n == id) ids → comes_before i r ≡ is_before ids i id
place_before id i ids r e = ap (comes_before i) e ∙ by_place (λ n. n == id) ids (λ o. comes_before i o ≡ is_before ids i id) (first_before (λ n. n == id) ids i) (none_before (λ n. n == id) ids i)
