-- What stands in a list, and what look-ups and tests find there.
use Rattle.std.proofs.Common.{◌≡◌, ◌≤◌, ◌+◌, ◌==◌, ℕ, List, [], ◌∷◌, ◌++◌, Bool, true, false, Option, Some, None, if◌then◌else◌, cond, refl, sym, ap, ◌∙◌, subst, inl, inr, arith}
use Rattle.std.specs.Prelude.{◌⊎◌, filter, find, flat_map, is_some}
use Rattle.std.specs.List.{list_any}
use Rattle.std.proofs.lemmas.Bool.{eq-eqb, true≢false, or_left, or_right}
use Rattle.tr_tracee.specs.declared.thread.Thread.{Thread}
use Rattle.tr_model.specs.Takes.{is_empty}
use Rattle.tr_model.specs.Journals.{IsIn, occurs}
use Rattle.tr_model.specs.Tables.{ids_of}

abbrev pub Among : {A : Type 0} → A → List A → Type 0
Among x [] = ⊥
Among x (y ∷ ys) = (x ≡ y) ⊎ Among x ys

-- Lists joined

pub among_left : {A : Type 0} (x : A) (ys zs : List A) → Among x ys → Among x (ys ++ zs)
among_left x [] zs m = absurd m
among_left x (y ∷ ys) zs (inl e) = inl e
among_left x (y ∷ ys) zs (inr m) = inr (among_left x ys zs m)

pub among_right : {A : Type 0} (x : A) (ys zs : List A) → Among x zs → Among x (ys ++ zs)
among_right x [] zs m = m
among_right x (y ∷ ys) zs m = inr (among_right x ys zs m)

-- Numbers in a list

pub occurs-append : (n : ℕ) (xs ys : List ℕ) → occurs n (xs ++ ys) ≡ occurs n xs + occurs n ys
occurs-append n [] ys = omega arith
occurs-append n (x ∷ xs) ys = omega (arith, occurs-append n xs ys)

pub is_in-last : (n : ℕ) (xs : List ℕ) → IsIn n (xs ++ n ∷ [])
is_in-last n [] = inl refl
is_in-last n (x ∷ xs) = inr (is_in-last n xs)

-- Tests

pub among_filter : {A : Type 0} (p : A → Bool) (x : A) (ys : List A) → Among x ys → p x ≡ true → Among x (filter p ys)
among_filter p x [] m h = absurd m
among_filter p x (y ∷ ys) (inl e) h = rw (subst (λ z. p z ≡ true) e h) (inl e)
among_filter p x (y ∷ ys) (inr m) h = elim (p y) as (λ b. Among x (cond b (y ∷ filter p ys) (filter p ys))) [ true ↦ inr (among_filter p x ys m h) | false ↦ among_filter p x ys m h ]

pub filter_among : {A : Type 0} (p : A → Bool) (x : A) (ys : List A) → Among x (filter p ys) → Among x ys × (p x ≡ true)
filter_among p x [] m = absurd m
filter_among {A = A} p x (y ∷ ys) m = go (p y) refl (filter_among p x ys) m
  where
    go : (b : Bool) → p y ≡ b → (Among x (filter p ys) → Among x ys × (p x ≡ true)) → Among x (cond b (y ∷ filter p ys) (filter p ys)) → Among x (y ∷ ys) × (p x ≡ true)
    go true e rest (inl q) = (inl q, subst (λ z. p z ≡ true) (sym q) e)
    go true e rest (inr r) = let h = rest r in (inr h.0, h.1)
    go false e rest r = let h = rest r in (inr h.0, h.1)

pub any_among : {A : Type 0} (p : A → Bool) (x : A) (ys : List A) → Among x ys → p x ≡ true → list_any p ys ≡ true
any_among p x [] m h = absurd m
any_among p x (y ∷ ys) (inl e) h = or_left (p y) _ (subst (λ z. p z ≡ true) e h)
any_among p x (y ∷ ys) (inr m) h = or_right (p y) _ (any_among p x ys m h)

-- Look-ups

pub find_among : {A : Type 0} (p : A → Bool) (x : A) (ys : List A) → find p ys ≡ Some x → Among x ys × (p x ≡ true)
find_among p x [] e = cc
find_among {A = A} p x (y ∷ ys) e = go (p y) refl (find_among p x ys) e
  where
    go : (b : Bool) → p y ≡ b → (find p ys ≡ Some x → Among x ys × (p x ≡ true)) → cond b (Some y) (find p ys) ≡ Some x → Among x (y ∷ ys) × (p x ≡ true)
    go true e rest f = let same : y ≡ x = cc in (inl (sym same), subst (λ z. p z ≡ true) same e)
    go false e rest f = let h = rest f in (inr h.0, h.1)

pub among_find : {A : Type 0} (p : A → Bool) (x : A) (ys : List A) → Among x ys → p x ≡ true → is_some (find p ys) ≡ true
among_find p x [] m h = absurd m
among_find p x (y ∷ ys) (inl e) h = rw (subst (λ z. p z ≡ true) e h) refl
among_find p x (y ∷ ys) (inr m) h = elim (p y) as (λ b. is_some (cond b (Some y) (find p ys)) ≡ true) [ true ↦ refl | false ↦ among_find p x ys m h ]

pub some_found : {A : Type 0} (o : Option A) → is_some o ≡ true → (x : A) × (o ≡ Some x)
some_found None e = absurd (true≢false (sym e))
some_found (Some x) e = (x, refl)

-- an element with an id is counted
pub occurs_among : (t : Thread) (ts : List Thread) → Among t ts → 1 ≤ occurs t.id (ids_of ts)
occurs_among t [] m = absurd m
occurs_among t (y ∷ ys) (inl e) = let h : (y.id == t.id) ≡ true = eq-eqb y.id t.id (ap (λ z. z.id) (sym e)) in rw h (omega arith)
occurs_among t (y ∷ ys) (inr m) = let h = occurs_among t ys m in omega (arith, h)

-- where ids are distinct, a thread is the one that is found by its id
pub found_by_id : (t : Thread) (ts : List Thread) → ((n : ℕ) → occurs n (ids_of ts) ≤ 1) → Among t ts → find (λ x. x.id == t.id) ts ≡ Some t
found_by_id t [] d m = absurd m
found_by_id t (y ∷ ys) d (inl e) = let h : (y.id == t.id) ≡ true = eq-eqb y.id t.id (ap (λ z. z.id) (sym e)) in rw h (ap (λ z. Some z) (sym e))
found_by_id t (y ∷ ys) d (inr m) = go (y.id == t.id) (d t.id) (occurs_among t ys m) (found_by_id t ys (λ n. omega (arith, d n)) m)
  where
    go : (b : Bool) → (if b then 1 else 0) + occurs t.id (ids_of ys) ≤ 1 → 1 ≤ occurs t.id (ids_of ys) → find (λ x. x.id == t.id) ys ≡ Some t → cond b (Some y) (find (λ x. x.id == t.id) ys) ≡ Some t
    go true few one f = absurd (omega (arith, few, one))
    go false few one f = f

-- Lists of lists

pub among_empty : {A : Type 0} (x : A) (ys : List A) → Among x ys → is_empty ys ≡ false
among_empty x [] m = absurd m
among_empty x (y ∷ ys) m = refl

pub empty_left : {A : Type 0} (xs ys : List A) → is_empty xs ≡ false → is_empty (xs ++ ys) ≡ false
empty_left [] ys e = absurd (true≢false e)
empty_left (x ∷ xs) ys e = refl

pub empty_right : {A : Type 0} (xs ys : List A) → is_empty ys ≡ false → is_empty (xs ++ ys) ≡ false
empty_right [] ys e = e
empty_right (x ∷ xs) ys e = refl

pub among_flat : {A : Type 0} (f : A → List ℕ) (x : A) (ys : List A) → Among x ys → is_empty (f x) ≡ false → is_empty (flat_map f ys) ≡ false
among_flat f x [] m h = absurd m
among_flat f x (y ∷ ys) (inl e) h = empty_left (f y) _ (subst (λ z. is_empty (f z) ≡ false) e h)
among_flat f x (y ∷ ys) (inr m) h = empty_right (f y) _ (among_flat f x ys m h)

-- the first number of a list of lists, and where it comes from
pub record First {A : Type 0} (f : A → List ℕ) (xs : List A) : Type 0 where
  pub from : A
  pub first : ℕ
  pub more : List ℕ
  pub rest : List ℕ
  pub among : Among from xs
  pub is : f from ≡ first ∷ more
  pub all : flat_map f xs ≡ first ∷ rest

pub first_of_flat : {A : Type 0} (f : A → List ℕ) (xs : List A) → is_empty (flat_map f xs) ≡ false → First f xs
first_of_flat f [] e = absurd (true≢false e)
first_of_flat f (x ∷ xs) e = go (f x) refl (first_of_flat f xs) e
  where
    go : (ns : List ℕ) → f x ≡ ns → (is_empty (flat_map f xs) ≡ false → First f xs) → is_empty (ns ++ flat_map f xs) ≡ false → First f (x ∷ xs)
    go [] is later e = let h = later e in record { from = h.from; first = h.first; more = h.more; rest = h.rest; among = inr h.among; is = h.is; all = ap (λ ns. ns ++ flat_map f xs) is ∙ h.all }
    go (n ∷ ns) is later e = record { from = x; first = n; more = ns; rest = ns ++ flat_map f xs; among = inl refl; is = is; all = ap (λ ks. ks ++ flat_map f xs) is }
