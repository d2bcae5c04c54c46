-- No two threads of a table get one id, and no group more than 64 threads.
use Rattle.std.proofs.Common.{◌≡◌, ◌==◌, ◌&&◌, ◌+◌, ◌<◌, ◌≤◌, ◌∙◌, ◌⊎◌, inl, inr, ℕ, suc, zero, List, [], ◌∷◌, ◌++◌, Bool, true, false, if◌then◌else◌, Some, None, Result, Ok, Err, filter, get_or, length, map, set, arith, refl, sym, ap, subst}
use Rattle.std.specs.Prelude.{OnErr, OnOk}
use Rattle.std.proofs.lemmas.Bool.{and_parts, cases_eq, eq-eqb, eqb-true, ne_eqb}
use Rattle.tr_tracee.specs.declared.thread.Thread.{Thread}
use Rattle.tr_tracee.specs.Lives.{is_dead}
use Rattle.tr_tracee.specs.Threads.{in_group, at_group}
use Rattle.tr_model.specs.Moves.{changed, dropped, in_leaders_row, renamed}
use Rattle.tr_model.specs.Tables.{thread_in}
use Rattle.tr_model.proofs.Between.{ids_total}
use Rattle.tr_model.proofs.Ids.{has_id, none_has}
use Rattle.tr_model.proofs.Measures.{total, total-append, total_dropped, total_filter, total_less, total_same}
use Rattle.tr_model.proofs.OneFate.{one}
use Rattle.tr_threads.proofs.Rosters.{is_of, in_all, Same}
use Rattle.tr_threads.specs.Changes.{thread_changed_by}
use Rattle.tr_threads.specs.declared.thread_changes.ThreadChange.{ThreadChange}
use Rattle.tr_threads.proofs.Keeping.{same_changed}
use Rattle.tr_table.specs.Order.{IsRoster}

by_totals : (ts : List Thread) → ((n : ℕ) → total (has_id n) ts ≤ 1) → ((g : ℕ) → total (is_of g) ts ≤ 64) → IsRoster ts
by_totals ts d f = record { distinct = λ n. omega (arith, ids_total n ts, d n); few = λ g. omega (arith, in_all g ts, f g) }

one_at_most : (n : ℕ) (ts : List Thread) → IsRoster ts → total (has_id n) ts ≤ 1
one_at_most n ts h = omega (arith, ids_total n ts, h.distinct n)

few_at_most : (g : ℕ) (ts : List Thread) → IsRoster ts → total (is_of g) ts ≤ 64
few_at_most g ts h = omega (arith, in_all g ts, h.few g)

same_id : (n : ℕ) (t u : Thread) → Same t u → has_id n u ≡ has_id n t
same_id n t u s = ap (λ (i : ℕ). one (i == n)) s.id

same_group : (g : ℕ) (t u : Thread) → Same t u → is_of g u ≡ is_of g t
same_group g t u s = ap (λ (i : ℕ). one (i == g)) s.group

pub same_where : (b : Bool) (t u : Thread) → Same t u → Same t (if b then u else t)
same_where true t u s = s
same_where false t u s = record { id = refl; group = refl }

pub roster_map : (f : Thread → Thread) → ((t : Thread) → Same t (f t)) → (ts : List Thread) → IsRoster ts → IsRoster (map f ts)
roster_map f s ts h =
    by_totals (map f ts)
    (λ n. omega (arith, total_same (has_id n) f (λ t. same_id n t (f t) (s t)) ts, one_at_most n ts h))
    (λ g. omega (arith, total_same (is_of g) f (λ t. same_group g t (f t) (s t)) ts, few_at_most g ts h))

total_first : (m : Thread → ℕ) (id : ℕ) (f : Thread → Thread) (ts : List Thread) → ((t : Thread) → thread_in ts id ≡ Some t → m (f t) ≡ m t) → total m (changed id f ts) ≡ total m ts
total_first m id f [] s = refl
total_first m id f (t ∷ ts) s = go (t.id == id) s (total_first m id f ts)
  where
    go : (b : Bool) → ((u : Thread) → (if b then Some t else thread_in ts id) ≡ Some u → m (f u) ≡ m u)
        → (((u : Thread) → thread_in ts id ≡ Some u → m (f u) ≡ m u) → total m (changed id f ts) ≡ total m ts)
        → total m (if b then f t ∷ ts else t ∷ changed id f ts) ≡ m t + total m ts
    go true k r = omega (arith, k t refl)
    go false k r = omega (arith, r k)

pub roster_changed : (id : ℕ) (f : Thread → Thread) (ts : List Thread) → ((t : Thread) → thread_in ts id ≡ Some t → Same t (f t)) → IsRoster ts → IsRoster (changed id f ts)
roster_changed id f ts s h =
    by_totals (changed id f ts)
    (λ n. omega (arith, total_first (has_id n) id f ts (λ t e. same_id n t (f t) (s t e)), one_at_most n ts h))
    (λ g. omega (arith, total_first (is_of g) id f ts (λ t e. same_group g t (f t) (s t e)), few_at_most g ts h))

-- where the record at a place is another one

total_set : (m : Thread → ℕ) (i : ℕ) (d y : Thread) (ts : List Thread) → m y ≡ m (get_or ts i d) → total m (set ts i y) ≡ total m ts
total_set m i d y [] e = refl
total_set m zero d y (t ∷ ts) e = omega (arith, e)
total_set m (suc i) d y (t ∷ ts) e = omega (arith, total_set m i d y ts e)

pub roster_set : (i : ℕ) (d y : Thread) (ts : List Thread) → Same (get_or ts i d) y → IsRoster ts → IsRoster (set ts i y)
roster_set i d y ts s h =
    by_totals (set ts i y)
    (λ n. omega (arith, total_set (has_id n) i d y ts (same_id n (get_or ts i d) y s), one_at_most n ts h))
    (λ g. omega (arith, total_set (is_of g) i d y ts (same_group g (get_or ts i d) y s), few_at_most g ts h))

-- threads that go

total_without : (m : Thread → ℕ) (id : ℕ) (ts : List Thread) → total m (dropped id ts) ≤ total m ts
total_without m id [] = omega arith
total_without m id (t ∷ ts) = go (t.id == id) (total_without m id ts)
  where
    go : (b : Bool) → total m (dropped id ts) ≤ total m ts → total m (if b then ts else t ∷ dropped id ts) ≤ m t + total m ts
    go true h = omega arith
    go false h = omega (arith, h)

pub roster_dropped : (id : ℕ) (ts : List Thread) → IsRoster ts → IsRoster (dropped id ts)
roster_dropped id ts h =
    by_totals (dropped id ts)
    (λ n. omega (arith, total_without (has_id n) id ts, one_at_most n ts h))
    (λ g. omega (arith, total_without (is_of g) id ts, few_at_most g ts h))

pub roster_filter : (p : Thread → Bool) (ts : List Thread) → IsRoster ts → IsRoster (filter p ts)
roster_filter p ts h =
    by_totals (filter p ts)
    (λ n. omega (arith, total_filter (has_id n) p ts, one_at_most n ts h))
    (λ g. omega (arith, total_filter (is_of g) p ts, few_at_most g ts h))

-- a thread of a new id comes

pub roster_added : (t : Thread) (ts : List Thread) → thread_in ts t.id ≡ None → length (filter (in_group t.group) ts) < 64 → IsRoster ts → IsRoster (ts ++ t ∷ [])
roster_added t ts new room h = by_totals (ts ++ t ∷ []) (λ n. once n (cases_eq t.id n)) (λ g. fits g (cases_eq t.group g))
  where
    once : (n : ℕ) → (t.id ≡ n) ⊎ (t.id ≡ n → ⊥) → total (has_id n) (ts ++ t ∷ []) ≤ 1
    once n (inl e) = omega (arith, total-append (has_id n) ts (t ∷ []), none_has n ts (ap (thread_in ts) (sym e) ∙ new), ap one (eq-eqb t.id n e))
    once n (inr e) = omega (arith, total-append (has_id n) ts (t ∷ []), one_at_most n ts h, ap one (ne_eqb t.id n e))

    fits : (g : ℕ) → (t.group ≡ g) ⊎ (t.group ≡ g → ⊥) → total (is_of g) (ts ++ t ∷ []) ≤ 64
    fits g (inl e) = omega (arith, total-append (is_of g) ts (t ∷ []), ap (λ i. total (is_of i) ts) e, in_all t.group ts, room, ap one (eq-eqb t.group g e))
    fits g (inr e) = omega (arith, total-append (is_of g) ts (t ∷ []), few_at_most g ts h, ap one (ne_eqb t.group g e))

-- a thread takes its dead leader's place

total_joined : (m k : Thread → ℕ) (f : Thread → Thread) → ((t : Thread) → m (f t) ≤ m t + k t) → (ts : List Thread) → total m (map f ts) ≤ total m ts + total k ts
total_joined m k f s [] = omega arith
total_joined m k f s (t ∷ ts) = omega (arith, s t, total_joined m k f s ts)

module _ (t : Thread) where
  pub place_id : (x : Thread) → (in_leaders_row t x).id ≡ x.id
  place_id x = go (x.id == t.group && is_dead x.life) refl
    where
      go : (b : Bool) → (x.id == t.group && is_dead x.life) ≡ b → (if b then renamed t.group t else x).id ≡ x.id
      go true e = sym (eqb-true x.id t.group (and_parts _ _ e).0)
      go false e = refl

  place_group : (g : ℕ) (x : Thread) → is_of g (in_leaders_row t x) ≤ is_of g x + has_id t.group x
  place_group g x = go (x.id == t.group) (is_dead x.life)
    where
      go : (b d : Bool) → is_of g (if b && d then renamed t.group t else x) ≤ is_of g x + one b
      go true true = at_most (t.group == g)
        where
          at_most : (b : Bool) → one b ≤ is_of g x + 1
          at_most true = omega arith
          at_most false = omega arith
      go true false = omega arith
      go false d = omega arith

  place_other : (g : ℕ) → (t.group ≡ g → ⊥) → (x : Thread) → is_of g (in_leaders_row t x) ≤ is_of g x
  place_other g e x = go (x.id == t.group && is_dead x.life)
    where
      go : (b : Bool) → is_of g (if b then renamed t.group t else x) ≤ is_of g x
      go true = omega (arith, ap one (ne_eqb t.group g e))
      go false = omega arith

  pub roster_placed : (ts : List Thread) → thread_in ts t.id ≡ Some t → IsRoster ts → IsRoster (map (in_leaders_row t) (dropped t.id ts))
  roster_placed ts there h = by_totals (map (in_leaders_row t) us) once (λ g. fits g (cases_eq t.group g))
    where
      us : List Thread
      us = dropped t.id ts

      once : (n : ℕ) → total (has_id n) (map (in_leaders_row t) us) ≤ 1
      once n = omega (arith, total_same (has_id n) (in_leaders_row t) (λ x. ap (λ (i : ℕ). one (i == n)) (place_id x)) us, total_without (has_id n) t.id ts, one_at_most n ts h)

      fits : (g : ℕ) → (t.group ≡ g) ⊎ (t.group ≡ g → ⊥) → total (is_of g) (map (in_leaders_row t) us) ≤ 64
      fits g (inl e) =
          omega (
            arith,
            total_joined (is_of g) (has_id t.group) (in_leaders_row t) (place_group g) us,
            total_dropped (is_of g) t.id t ts there,
            ap one (eq-eqb t.group g e),
            total_without (has_id t.group) t.id ts,
            one_at_most t.group ts h,
            few_at_most g ts h,
          )
      fits g (inr e) = omega (arith, total_less (is_of g) (in_leaders_row t) (place_other g e) us, total_without (is_of g) t.id ts, few_at_most g ts h)

-- where a thread came, or memory was refused
pub roster_grown : {A B : Type 0} (r : Result A B) (t : Thread) (ts us : List Thread) → OnOk r (us ≡ ts ++ t ∷ []) → OnErr r (us ≡ ts) → thread_in ts t.id ≡ None → length (filter (in_group t.group) ts) < 64 → IsRoster ts → IsRoster us
roster_grown (Ok a) t ts us e f new room h = subst IsRoster (sym e) (roster_added t ts new room h)
roster_grown (Err b) t ts us e f new room h = subst IsRoster (sym f) h

-- a change of the threads of a group

pub roster_of_members : (g : ℕ) (c : ThreadChange) (ts : List Thread) → IsRoster ts → IsRoster (map (at_group g (thread_changed_by c)) ts)
roster_of_members g c ts h = roster_map (at_group g (thread_changed_by c)) (λ t. same_where (t.group == g) t (thread_changed_by c t) (same_changed c t)) ts h
