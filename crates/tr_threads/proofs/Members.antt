-- What a change of the list of all threads makes of the list of a group's threads.
use Rattle.std.proofs.Common.{◌≡◌, ◌==◌, ◌<◌, ◌≤◌, ◌∙◌, ℕ, zero, suc, List, [], ◌∷◌, ◌++◌, Bool, true, false, cond, if◌then◌else◌, filter, length, set, get_or, remove, arith, refl, ap, sym}
use Rattle.tr_tracee.specs.declared.thread.Thread.{Thread}
use Rattle.tr_tracee.specs.Threads.{in_group}

-- where among its group's threads the one at a place of the list stands

abbrev pub rank : ℕ → List Thread → ℕ → ℕ
rank g [] i = 0
rank g (t ∷ ts) zero = 0
rank g (t ∷ ts) (suc i) = if t.group == g then suc (rank g ts i) else rank g ts i

pub rank_within : (g : ℕ) (ts : List Thread) (i : ℕ) (d : Thread) → i < length ts → ((get_or ts i d).group == g) ≡ true → rank g ts i < length (filter (in_group g) ts)
rank_within g [] i d h e = absurd (omega (arith, h))
rank_within g (t ∷ ts) zero d h e = rw e (omega arith)
rank_within g (t ∷ ts) (suc i) d h e = go (t.group == g) (rank_within g ts i d (omega (arith, h)) e)
  where
    go : (b : Bool) → rank g ts i < length (filter (in_group g) ts) → (if b then suc (rank g ts i) else rank g ts i) < length (cond b (t ∷ filter (in_group g) ts) (filter (in_group g) ts))
    go true r = omega (arith, r)
    go false r = r

pub at_rank : (g : ℕ) (ts : List Thread) (i : ℕ) (d : Thread) → i < length ts → ((get_or ts i d).group == g) ≡ true → get_or (filter (in_group g) ts) (rank g ts i) d ≡ get_or ts i d
at_rank g [] i d h e = absurd (omega (arith, h))
at_rank g (t ∷ ts) zero d h e = ap (λ b. get_or (cond b (t ∷ filter (in_group g) ts) (filter (in_group g) ts)) 0 d) e
at_rank g (t ∷ ts) (suc i) d h e = go (t.group == g) (at_rank g ts i d (omega (arith, h)) e)
  where
    go : (b : Bool) → get_or (filter (in_group g) ts) (rank g ts i) d ≡ get_or ts i d → get_or (cond b (t ∷ filter (in_group g) ts) (filter (in_group g) ts)) (if b then suc (rank g ts i) else rank g ts i) d ≡ get_or ts i d
    go true r = r
    go false r = r

-- a record is written, comes last, or goes

pub members_written : (g : ℕ) (ts : List Thread) (i : ℕ) (d y : Thread) → i < length ts → ((get_or ts i d).group == g) ≡ true → (y.group == g) ≡ true → filter (in_group g) (set ts i y) ≡ set (filter (in_group g) ts) (rank g ts i) y
members_written g [] i d y h e k = absurd (omega (arith, h))
members_written g (t ∷ ts) zero d y h e k =
    ap (λ b. cond b (y ∷ filter (in_group g) ts) (filter (in_group g) ts)) k
    ∙ sym (ap (λ b. set (cond b (t ∷ filter (in_group g) ts) (filter (in_group g) ts)) 0 y) e)
members_written g (t ∷ ts) (suc i) d y h e k = go (t.group == g) (members_written g ts i d y (omega (arith, h)) e k)
  where
    go : (b : Bool) → filter (in_group g) (set ts i y) ≡ set (filter (in_group g) ts) (rank g ts i) y
        → cond b (t ∷ filter (in_group g) (set ts i y)) (filter (in_group g) (set ts i y)) ≡ set (cond b (t ∷ filter (in_group g) ts) (filter (in_group g) ts)) (if b then suc (rank g ts i) else rank g ts i) y
    go true r = ap (λ us. t ∷ us) r
    go false r = r

pub members_added : (g : ℕ) (ts : List Thread) (t : Thread) → filter (in_group g) (ts ++ t ∷ []) ≡ (if t.group == g then filter (in_group g) ts ++ t ∷ [] else filter (in_group g) ts)
members_added g [] t = go (t.group == g)
  where
    go : (b : Bool) → cond b (t ∷ []) [] ≡ (if b then t ∷ [] else [])
    go true = refl
    go false = refl
members_added g (u ∷ ts) t = go (u.group == g) (t.group == g) (members_added g ts t)
  where
    go : (a b : Bool) → filter (in_group g) (ts ++ t ∷ []) ≡ (if b then filter (in_group g) ts ++ t ∷ [] else filter (in_group g) ts)
        → cond a (u ∷ filter (in_group g) (ts ++ t ∷ [])) (filter (in_group g) (ts ++ t ∷ []))
        ≡ (if b then cond a (u ∷ filter (in_group g) ts) (filter (in_group g) ts) ++ t ∷ [] else cond a (u ∷ filter (in_group g) ts) (filter (in_group g) ts))
    go true true r = ap (λ us. u ∷ us) r
    go true false r = ap (λ us. u ∷ us) r
    go false b r = r

pub members_gone : (g : ℕ) (ts : List Thread) (i : ℕ) (d : Thread) → i < length ts → ((get_or ts i d).group == g) ≡ true → filter (in_group g) (remove ts i) ≡ remove (filter (in_group g) ts) (rank g ts i)
members_gone g [] i d h e = absurd (omega (arith, h))
members_gone g (t ∷ ts) zero d h e = sym (ap (λ b. remove (cond b (t ∷ filter (in_group g) ts) (filter (in_group g) ts)) 0) e)
members_gone g (t ∷ ts) (suc i) d h e = go (t.group == g) (members_gone g ts i d (omega (arith, h)) e)
  where
    go : (b : Bool) → filter (in_group g) (remove ts i) ≡ remove (filter (in_group g) ts) (rank g ts i)
        → cond b (t ∷ filter (in_group g) (remove ts i)) (filter (in_group g) (remove ts i)) ≡ remove (cond b (t ∷ filter (in_group g) ts) (filter (in_group g) ts)) (if b then suc (rank g ts i) else rank g ts i)
    go true r = ap (λ us. t ∷ us) r
    go false r = r

pub others_gone : (g : ℕ) (ts : List Thread) (i : ℕ) (d : Thread) → ((get_or ts i d).group == g) ≡ false → filter (in_group g) (remove ts i) ≡ filter (in_group g) ts
others_gone g [] zero d e = refl
others_gone g [] (suc i) d e = refl
others_gone g (t ∷ ts) zero d e = sym (ap (λ b. cond b (t ∷ filter (in_group g) ts) (filter (in_group g) ts)) e)
others_gone g (t ∷ ts) (suc i) d e = go (t.group == g) (others_gone g ts i d e)
  where
    go : (b : Bool) → filter (in_group g) (remove ts i) ≡ filter (in_group g) ts → cond b (t ∷ filter (in_group g) (remove ts i)) (filter (in_group g) (remove ts i)) ≡ cond b (t ∷ filter (in_group g) ts) (filter (in_group g) ts)
    go true r = ap (λ us. t ∷ us) r
    go false r = r

pub unmoved : (g : ℕ) (ts : List Thread) (i : ℕ) (d y : Thread) → ((get_or ts i d).group == g) ≡ false → (y.group == g) ≡ false → filter (in_group g) (set ts i y) ≡ filter (in_group g) ts
unmoved g [] i d y e k = refl
unmoved g (t ∷ ts) zero d y e k = ap (λ b. cond b (y ∷ filter (in_group g) ts) (filter (in_group g) ts)) k ∙ sym (ap (λ b. cond b (t ∷ filter (in_group g) ts) (filter (in_group g) ts)) e)
unmoved g (t ∷ ts) (suc i) d y e k = go (t.group == g) (unmoved g ts i d y e k)
  where
    go : (b : Bool) → filter (in_group g) (set ts i y) ≡ filter (in_group g) ts → cond b (t ∷ filter (in_group g) (set ts i y)) (filter (in_group g) (set ts i y)) ≡ cond b (t ∷ filter (in_group g) ts) (filter (in_group g) ts)
    go true r = ap (λ us. t ∷ us) r
    go false r = r

-- nothing goes from a place that isn't there
pub remove_past : {X : Type 0} (xs : List X) (i : ℕ) → length xs ≤ i → remove xs i ≡ xs
remove_past [] zero h = refl
remove_past [] (suc i) h = refl
remove_past (x ∷ xs) zero h = absurd (omega (arith, h))
remove_past {X} (x ∷ xs) (suc i) h = ap (λ (ys : List X). x ∷ ys) (remove_past xs i (omega (arith, h)))
