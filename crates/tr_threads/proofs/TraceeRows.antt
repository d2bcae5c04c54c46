-- Where a tracer's rows stand in rows that rise by tracer.
use Rattle.std.proofs.Common.{◌≡◌, ◌==◌, ◌||◌, ◌+◌, ◌-◌, ◌<◌, ◌≤◌, ◌∙◌, ◌⊎◌, inl, inr, ℕ, zero, suc, List, [], ◌∷◌, Bool, true, false, cond, if◌then◌else◌, drop, filter, leb, length, map, nat_lt, get_or, take, arith, refl, ap, sym, subst, eq-eqb}
use Rattle.std.specs.Prelude.{slice_get}
use Rattle.std.specs.List.{list_any}
use Rattle.std.proofs.lemmas.Bool.{cases_eq, cases_lt, eqb-true, le-leb, le-ltb, lt-leb, lt-ltb, ltb-false, ne_eqb}
use Rattle.std.proofs.lemmas.List.{length-map}
use Rattle.std.proofs.lemmas.List.Elements.{filter_agree}
use Rattle.std.proofs.lemmas.Option.{slice_get-get_or, slice_get_past}
use Rattle.tr_threads.specs.declared.tracee_list.Listed.{Listed}
use Rattle.tr_threads.specs.TraceeLists.{Rises, ids_under, is_under, is_under_if}
use Rattle.tr_threads.proofs.Parted.{First, Parts, all_parts, all_pass, none_pass, parts_count}

-- how many rows are of tracers below this one
abbrev pub low : ℕ → List Listed → ℕ
low a ls = length (filter (λ l. nat_lt l.tracer a) ls)

-- the row is of a tracer below this one, or of this one and passes
abbrev pub front : (ℕ → Bool) → ℕ → Listed → Bool
front f a l = if l.tracer == a then f l.id else nat_lt l.tracer a

-- what follows a row that is the tracer's or not, and of a tracer below it or not
pub record Head (a : ℕ) (ls : List Listed) (here below : Bool) : Type 0 where
  pub only : here ≡ true → below ≡ false
  pub none_below : below ≡ false → low a ls ≡ 0
  pub none_here : here ≡ false → below ≡ false → filter (is_under a) ls ≡ []

pub rest_rises : (x : Listed) (ls : List Listed) → Rises (x ∷ ls) → Rises ls
rest_rises x ls r i j d le l = r (suc i) (suc j) d (omega (arith, le)) (omega (arith, l))

pub head : (a : ℕ) (x : Listed) (ls : List Listed) → Rises (x ∷ ls) → Head a ls (x.tracer == a) (nat_lt x.tracer a)
head a x ls r = record {
  only = λ e. le-ltb x.tracer a (omega (arith, eqb-true x.tracer a e));
  none_below = λ e. ap (λ (ks : List Listed). length ks) (none_pass (λ l. nat_lt l.tracer a) ls (λ j d l. le-ltb (get_or ls j d).tracer a (omega (arith, ltb-false x.tracer a e, after j d l))));
  none_here = λ n e. none_pass (is_under a) ls (λ j d l. ne_eqb (get_or ls j d).tracer a (λ q. apart n (omega (arith, q, ltb-false x.tracer a e, after j d l))));
}
  where
    after : (j : ℕ) (d : Listed) → j < length ls → x.tracer ≤ (get_or ls j d).tracer
    after j d l = r 0 (suc j) d (omega arith) (omega (arith, l))

    apart : (x.tracer == a) ≡ false → x.tracer ≡ a → ⊥
    apart n q = never (sym n ∙ eq-eqb x.tracer a q)
      where
        never : false ≡ true → ⊥
        never h = cc

module _ (a : ℕ) where
  -- the rows that stand before the tracer's from a place on

  pub parts_rows : (f : ℕ → Bool) (ls : List Listed) (n k : ℕ) → n ≡ low a ls + k → Rises ls → Parts f (ids_under a ls) k → Parts (front f a) ls n
  parts_rows f [] n k e r h = omega (arith, e, h)
  parts_rows f (x ∷ ls) n k e r h = go (x.tracer == a) (nat_lt x.tracer a) (head a x ls r) (λ n k e h. parts_rows f ls n k e (rest_rises x ls r) h) n k e h
    where
      empty : (k : ℕ) → filter (is_under a) ls ≡ [] → Parts f (ids_under a ls) k → k ≡ 0
      empty k e h = subst (λ (ks : List Listed). Parts f (map (λ l. l.id) ks) k) e h

      go : (b c : Bool) → Head a ls b c → ((n k : ℕ) → n ≡ low a ls + k → Parts f (ids_under a ls) k → Parts (front f a) ls n) → (n k : ℕ) → n ≡ length (cond c (x ∷ filter (λ l. nat_lt l.tracer a) ls) (filter (λ l. nat_lt l.tracer a) ls)) + k
          → Parts f (map (λ l. l.id) (cond b (x ∷ filter (is_under a) ls) (filter (is_under a) ls))) k → First (if b then f x.id else c) (Parts (front f a) ls) n
      go true true s rest n k e h = absurd (never (s.only refl))
        where
          never : true ≡ false → ⊥
          never h = cc
      go true false s rest zero zero e h = (h.0, rest 0 0 (omega (arith, s.none_below refl)) h.1)
      go true false s rest zero (suc k) e h = absurd (omega (arith, e))
      go true false s rest (suc n) zero e h = absurd (omega (arith, e, s.none_below refl))
      go true false s rest (suc n) (suc k) e h = (h.0, rest n k (omega (arith, e)) h.1)
      go false true s rest zero k e h = absurd (omega (arith, e))
      go false true s rest (suc n) k e h = (refl, rest n k (omega (arith, e)) h)
      go false false s rest zero k e h = (refl, rest 0 k e h)
      go false false s rest (suc n) k e h = absurd (omega (arith, e, s.none_below refl, empty k (s.none_here refl refl) h))

  -- how many of the tracer's are among the first ones
  pub under_count : (ls : List Listed) (n k : ℕ) → n ≡ low a ls + k → Rises ls → k ≤ length (ids_under a ls) → length (filter (is_under a) (take n ls)) ≡ k
  under_count [] zero k e r l = omega (arith, l)
  under_count [] (suc n) k e r l = omega (arith, l)
  under_count (x ∷ ls) zero k e r l = omega (arith, e)
  under_count (x ∷ ls) (suc n) k e r l = go (x.tracer == a) (nat_lt x.tracer a) (head a x ls r) (λ k e l. under_count ls n k e (rest_rises x ls r) l) k e l
    where
      go : (b c : Bool) → Head a ls b c → ((k : ℕ) → n ≡ low a ls + k → k ≤ length (ids_under a ls) → length (filter (is_under a) (take n ls)) ≡ k) → (k : ℕ) → suc n ≡ length (cond c (x ∷ filter (λ l. nat_lt l.tracer a) ls) (filter (λ l. nat_lt l.tracer a) ls)) + k
          → k ≤ length (map (λ l. l.id) (cond b (x ∷ filter (is_under a) ls) (filter (is_under a) ls))) → length (cond b (x ∷ filter (is_under a) (take n ls)) (filter (is_under a) (take n ls))) ≡ k
      go true true s rest k e l = absurd (never (s.only refl))
        where
          never : true ≡ false → ⊥
          never h = cc
      go true false s rest zero e l = absurd (omega (arith, e, s.none_below refl))
      go true false s rest (suc k) e l = ap suc (rest k (omega (arith, e)) (omega (arith, l)))
      go false true s rest k e l = rest k (omega (arith, e)) l
      go false false s rest k e l = absurd (omega (arith, e, l, s.none_below refl, ap (λ (ks : List Listed). length (map (λ l. l.id) ks)) (s.none_here refl refl)))

  -- the tracer's row after k others of it
  pub row_at : (ls : List Listed) (n k : ℕ) → n ≡ low a ls + k → Rises ls → k < length (ids_under a ls) → (n < length ls) × ((d : Listed) → (get_or ls n d).tracer ≡ a)
  row_at [] n k e r l = absurd (omega (arith, l))
  row_at (x ∷ ls) n k e r l = go (x.tracer == a) (nat_lt x.tracer a) refl (head a x ls r) (λ n k e l. row_at ls n k e (rest_rises x ls r) l) n k e l
    where
      go : (b c : Bool) → (x.tracer == a) ≡ b → Head a ls b c → ((n k : ℕ) → n ≡ low a ls + k → k < length (ids_under a ls) → (n < length ls) × ((d : Listed) → (get_or ls n d).tracer ≡ a)) → (n k : ℕ) → n ≡ length (cond c (x ∷ filter (λ l. nat_lt l.tracer a) ls) (filter (λ l. nat_lt l.tracer a) ls)) + k
          → k < length (map (λ l. l.id) (cond b (x ∷ filter (is_under a) ls) (filter (is_under a) ls))) → (n < suc (length ls)) × ((d : Listed) → (get_or (x ∷ ls) n d).tracer ≡ a)
      go true true q s rest n k e l = absurd (never (s.only refl))
        where
          never : true ≡ false → ⊥
          never h = cc
      go true false q s rest zero k e l = (omega arith, λ d. eqb-true x.tracer a q)
      go true false q s rest (suc n) zero e l = absurd (omega (arith, e, s.none_below refl))
      go true false q s rest (suc n) (suc k) e l = let t = rest n k (omega (arith, e)) (omega (arith, l)) in (omega (arith, t.0), t.1)
      go false true q s rest zero k e l = absurd (omega (arith, e))
      go false true q s rest (suc n) k e l = let t = rest n k (omega (arith, e)) l in (omega (arith, t.0), t.1)
      go false false q s rest n k e l = absurd (omega (arith, l, ap (λ (ks : List Listed). length (map (λ l. l.id) ks)) (s.none_here refl refl)))

  -- the tracer's rows are a part of all
  pub rows_between : (ls : List Listed) (n m : ℕ) → n ≡ low a ls → m ≡ length (filter (is_under a) ls) → Rises ls → take m (drop n ls) ≡ filter (is_under a) ls
  rows_between [] zero zero e h r = refl
  rows_between [] zero (suc m) e h r = refl
  rows_between [] (suc n) zero e h r = refl
  rows_between [] (suc n) (suc m) e h r = refl
  rows_between (x ∷ ls) n m e h r = go (x.tracer == a) (nat_lt x.tracer a) (head a x ls r) (λ n m e h. rows_between ls n m e h (rest_rises x ls r)) n m e h
    where
      go : (b c : Bool) → Head a ls b c → ((n m : ℕ) → n ≡ low a ls → m ≡ length (filter (is_under a) ls) → take m (drop n ls) ≡ filter (is_under a) ls) → (n m : ℕ) → n ≡ length (cond c (x ∷ filter (λ l. nat_lt l.tracer a) ls) (filter (λ l. nat_lt l.tracer a) ls))
          → m ≡ length (cond b (x ∷ filter (is_under a) ls) (filter (is_under a) ls)) → take m (drop n (x ∷ ls)) ≡ cond b (x ∷ filter (is_under a) ls) (filter (is_under a) ls)
      go true true s rest n m e h = absurd (never (s.only refl))
        where
          never : true ≡ false → ⊥
          never h = cc
      go true false s rest zero zero e h = absurd (omega (arith, h))
      go true false s rest zero (suc m) e h = ap (λ ks. x ∷ ks) (rest 0 m (omega (arith, s.none_below refl)) (omega (arith, h)))
      go true false s rest (suc n) m e h = absurd (omega (arith, e, s.none_below refl))
      go false true s rest zero m e h = absurd (omega (arith, e))
      go false true s rest (suc n) m e h = rest n m (omega (arith, e)) h
      go false false s rest zero zero e h = sym (s.none_here refl refl)
      go false false s rest zero (suc m) e h = absurd (omega (arith, h, ap (λ (ks : List Listed). length ks) (s.none_here refl refl)))
      go false false s rest (suc n) m e h = absurd (omega (arith, e, s.none_below refl))

  nobody : (ls : List Listed) → filter (is_under a) ls ≡ [] → list_any (is_under a) ls ≡ false
  nobody [] h = refl
  nobody (x ∷ ls) h = go (x.tracer == a) h (nobody ls)
    where
      go : (b : Bool) → cond b (x ∷ filter (is_under a) ls) (filter (is_under a) ls) ≡ [] → (filter (is_under a) ls ≡ [] → list_any (is_under a) ls ≡ false) → (b || list_any (is_under a) ls) ≡ false
      go true h r = absurd (omega (arith, ap (λ (ks : List Listed). length ks) h))
      go false h r = r h

  -- the first of the tracer's stands after those of tracers below it
  pub first_row : (ls : List Listed) (n : ℕ) → n ≡ low a ls → Rises ls → is_under_if a (slice_get ls n) ≡ list_any (is_under a) ls
  first_row [] zero e r = refl
  first_row [] (suc n) e r = refl
  first_row (x ∷ ls) n e r = go (x.tracer == a) (nat_lt x.tracer a) refl (head a x ls r) (λ n e. first_row ls n e (rest_rises x ls r)) n e
    where
      go : (b c : Bool) → (x.tracer == a) ≡ b → Head a ls b c → ((n : ℕ) → n ≡ low a ls → is_under_if a (slice_get ls n) ≡ list_any (is_under a) ls) → (n : ℕ) → n ≡ length (cond c (x ∷ filter (λ l. nat_lt l.tracer a) ls) (filter (λ l. nat_lt l.tracer a) ls))
          → is_under_if a (slice_get (x ∷ ls) n) ≡ (b || list_any (is_under a) ls)
      go true true q s rest n e = absurd (never (s.only refl))
        where
          never : true ≡ false → ⊥
          never h = cc
      go true false q s rest zero e = q
      go true false q s rest (suc n) e = absurd (omega (arith, e, s.none_below refl))
      go false true q s rest zero e = absurd (omega (arith, e))
      go false true q s rest (suc n) e = rest n (omega (arith, e))
      go false false q s rest zero e = q ∙ sym (nobody ls (s.none_here refl refl))
      go false false q s rest (suc n) e = absurd (omega (arith, e, s.none_below refl))

  -- up to the last of the tracer's, all rows are of no later tracer

  pub not_after : (l : Listed) → front (λ _. true) a l ≡ leb l.tracer a
  not_after l = go (cases_eq l.tracer a) (cases_lt l.tracer a)
    where
      above : (l.tracer ≡ a → ⊥) → (a < l.tracer) ⊎ (l.tracer ≤ a) → a ≤ l.tracer → a < l.tracer
      above e (inl h) c = h
      above e (inr h) c = absurd (e (omega (arith, h, c)))

      go : (l.tracer ≡ a) ⊎ (l.tracer ≡ a → ⊥) → (l.tracer < a) ⊎ (a ≤ l.tracer) → (if l.tracer == a then true else nat_lt l.tracer a) ≡ leb l.tracer a
      go (inl e) c = rw (eq-eqb l.tracer a e) (sym (le-leb l.tracer a (omega (arith, e))))
      go (inr e) (inl c) = rw (ne_eqb l.tracer a e, lt-ltb l.tracer a c) (sym (le-leb l.tracer a (omega (arith, c))))
      go (inr e) (inr c) = rw (ne_eqb l.tracer a e, le-ltb l.tracer a c) (sym (lt-leb l.tracer a (above e (cases_lt a l.tracer) c)))

  pub not_after_count : (ls : List Listed) → Rises ls → length (filter (λ l. leb l.tracer a) ls) ≡ low a ls + length (ids_under a ls)
  not_after_count ls r =
      sym (ap (λ (ks : List Listed). length ks) (filter_agree (front (λ _. true) a) (λ l. leb l.tracer a) not_after ls))
      ∙ parts_count (front (λ _. true) a) ls (low a ls + length (ids_under a ls)) (parts_rows (λ _. true) ls (low a ls + length (ids_under a ls)) (length (ids_under a ls)) refl r (all_parts (ids_under a ls)))

  -- where the first row and the last are the tracer's, all are
  pub all_under : (ls : List Listed) → Rises ls → is_under_if a (slice_get ls 0) ≡ true → is_under_if a (slice_get ls (length ls - 1)) ≡ true → ls ≡ filter (is_under a) ls
  all_under [] r f l = refl
  all_under (x ∷ ls) r f l = sym (all_pass (is_under a) (x ∷ ls) (λ j d k. eq-eqb (get_or (x ∷ ls) j d).tracer a (between j d k)))
    where
      n : ℕ
      n = length ls

      here : (j : ℕ) (d : Listed) → j < length (x ∷ ls) → is_under_if a (slice_get (x ∷ ls) j) ≡ true → (get_or (x ∷ ls) j d).tracer ≡ a
      here j d k e = eqb-true (get_or (x ∷ ls) j d).tracer a (ap (is_under_if a) (sym (slice_get-get_or (x ∷ ls) j d k)) ∙ e)

      last : is_under_if a (slice_get (x ∷ ls) n) ≡ true
      last = subst (λ (m : ℕ). is_under_if a (slice_get (x ∷ ls) m) ≡ true) (omega arith) l

      between : (j : ℕ) (d : Listed) → j < length (x ∷ ls) → (get_or (x ∷ ls) j d).tracer ≡ a
      between j d k = omega (arith, r 0 j d (omega arith) k, r j n d (omega (arith, k)) (omega arith), here 0 d (omega arith) f, here n d (omega arith) last)

  -- the part that has the tracer's rows
  pub is_part : (ls : List Listed) (n m : ℕ) → n ≡ low a ls → m ≡ length (filter (λ l. leb l.tracer a) ls) → Rises ls → n ≤ m
  is_part ls n m e h r = omega (arith, e, h, not_after_count ls r)

  pub part_under : (ls : List Listed) (n m : ℕ) → n ≡ low a ls → m ≡ length (filter (λ l. leb l.tracer a) ls) → Rises ls → take (m - n) (drop n ls) ≡ filter (is_under a) ls
  part_under ls n m e h r = rows_between ls n (m - n) e (omega (arith, e, h, not_after_count ls r, length-map (filter (is_under a) ls) (λ (l : Listed). l.id))) r

  -- the one at the place of the first, where there is one
  pub one_there : (ls : List Listed) (n : ℕ) (d : Listed) → n ≡ low a ls → Rises ls → n < length ls → ((get_or ls n d).tracer == a) ≡ list_any (is_under a) ls
  one_there ls n d e r l = ap (is_under_if a) (sym (slice_get-get_or ls n d l)) ∙ first_row ls n e r

  pub none_there : (ls : List Listed) (n : ℕ) → n ≡ low a ls → Rises ls → length ls ≤ n → false ≡ list_any (is_under a) ls
  none_there ls n e r l = ap (is_under_if a) (sym (slice_get_past ls n l)) ∙ first_row ls n e r

-- what stands before and what doesn't, by the tracers
module _ (f : ℕ → Bool) (a : ℕ) (l : Listed) where
  pub front_not_above : front f a l ≡ true → l.tracer ≤ a
  front_not_above h = go (cases_lt a l.tracer)
    where
      never : true ≡ false → ⊥
      never e = cc

      go : (a < l.tracer) ⊎ (l.tracer ≤ a) → l.tracer ≤ a
      go (inr k) = k
      go (inl k) = absurd (never (sym h ∙ (ap (λ (b : Bool). if b then f l.id else nat_lt l.tracer a) (ne_eqb l.tracer a (λ e. omega (arith, e, k))) ∙ le-ltb l.tracer a (omega (arith, k)))))

  pub front_not_below : front f a l ≡ false → a ≤ l.tracer
  front_not_below h = go (cases_lt l.tracer a)
    where
      never : true ≡ false → ⊥
      never e = cc

      go : (l.tracer < a) ⊎ (a ≤ l.tracer) → a ≤ l.tracer
      go (inr k) = k
      go (inl k) = absurd (never (sym (ap (λ (b : Bool). if b then f l.id else nat_lt l.tracer a) (ne_eqb l.tracer a (λ e. omega (arith, e, k))) ∙ lt-ltb l.tracer a k) ∙ h))
