-- The threads of a group, one after the other by their ids; and how many of them pass a test.
use Rattle.std.proofs.Common.{◌≡◌, ◌==◌, ◌&&◌, ◌≤◌, ◌∙◌, ◌⊎◌, inl, inr, ℕ, zero, suc, List, [], ◌∷◌, Bool, true, false, Option, Some, cond, drop, if◌then◌else◌, filter, length, map, arith, refl, ap, sym, eq-eqb, ◌<◌, None, get_or}
use Rattle.std.specs.List.{list_all}
use Rattle.std.specs.Prelude.{slice_get}
use Rattle.std.proofs.lemmas.Option.{slice_get-get_or}
use Rattle.std.proofs.lemmas.Bool.{cases_eq, ne_eqb}
use Rattle.std.proofs.lemmas.List.Folds.{list_all-map}
use Rattle.tr_tracee.specs.declared.thread.Thread.{Thread}
use Rattle.tr_tracee.specs.Threads.{at_group, in_group}
use Rattle.tr_model.specs.Journals.{occurs}
use Rattle.tr_model.specs.Moves.{changed}
use Rattle.tr_model.specs.Tables.{ids_of, thread_in}
use Rattle.tr_model.proofs.Costs.{filter-le-length}
use Rattle.tr_threads.proofs.Rosters.{Same}
use Rattle.tr_threads.proofs.ThreadLists.{ids_length}
use Rattle.tr_threads.proofs.Rostering.{ids_in, occurs_in}

-- counts

pub all_counted : (p : Thread → Bool) (ms : List Thread) → list_all p ms ≡ (length (filter p ms) == length (ids_of ms))
all_counted p [] = refl
all_counted p (m ∷ ms) = go (p m) (all_counted p ms)
  where
    few : length (filter p ms) ≤ length (ids_of ms)
    few = omega (arith, filter-le-length p ms, ids_length ms)

    more : (a b : ℕ) → (a == b) ≡ (suc a == suc b)
    more a b = by (cases_eq a b)
      where
        by : (a ≡ b) ⊎ (a ≡ b → ⊥) → (a == b) ≡ (suc a == suc b)
        by (inl e) = eq-eqb a b e ∙ sym (eq-eqb (suc a) (suc b) (ap suc e))
        by (inr e) = ne_eqb a b e ∙ sym (ne_eqb (suc a) (suc b) (λ k. e (omega (arith, k))))

    go : (b : Bool) → list_all p ms ≡ (length (filter p ms) == length (ids_of ms)) → (b && list_all p ms) ≡ (length (cond b (m ∷ filter p ms) (filter p ms)) == suc (length (ids_of ms)))
    go true h = h ∙ more (length (filter p ms)) (length (ids_of ms))
    go false h = sym (ne_eqb (length (filter p ms)) (suc (length (ids_of ms))) (λ e. omega (arith, e, few)))

-- each is found by its id

skip : (t : Thread) (ts : List Thread) (ns : List ℕ) → occurs t.id ns ≤ 0 → map (thread_in (t ∷ ts)) ns ≡ map (thread_in ts) ns
skip t ts [] h = refl
skip t ts (n ∷ ns) h = go (cases_eq t.id n) (skip t ts ns)
  where
    go : (t.id ≡ n) ⊎ (t.id ≡ n → ⊥) → (occurs t.id ns ≤ 0 → map (thread_in (t ∷ ts)) ns ≡ map (thread_in ts) ns) → map (thread_in (t ∷ ts)) (n ∷ ns) ≡ map (thread_in ts) (n ∷ ns)
    go (inl e) r = absurd (omega (arith, h, ap {B = ℕ} (λ (b : Bool). if b then 1 else 0) (eq-eqb n t.id (sym e))))
    go (inr e) r = λ j. cond (ne_eqb t.id n e j) (Some t) (thread_in ts n) ∷ r (omega (arith, h)) j

pub found : (p : Thread → Bool) (ts : List Thread) → ((n : ℕ) → occurs n (ids_of ts) ≤ 1) → map (thread_in ts) (ids_of (filter p ts)) ≡ map Some (filter p ts)
found p [] once = refl
found p (t ∷ ts) once = go (p t) (skip t ts (ids_of (filter p ts)) (omega (arith, left, occurs_in t.id p ts)) ∙ found p ts (λ n. omega (arith, once n)))
  where
    left : occurs t.id (ids_of ts) ≤ 0
    left = omega (arith, once t.id, ap {B = ℕ} (λ (b : Bool). if b then 1 else 0) (eq-eqb t.id t.id refl))

    go : (b : Bool) → map (thread_in (t ∷ ts)) (ids_of (filter p ts)) ≡ map Some (filter p ts)
        → map (thread_in (t ∷ ts)) (ids_of (cond b (t ∷ filter p ts) (filter p ts))) ≡ map Some (cond b (t ∷ filter p ts) (filter p ts))
    go true r = λ j. cond (eq-eqb t.id t.id refl j) (Some t) (thread_in ts t.id) ∷ r j
    go false r = r

pub all_found : (q : Option Thread → Bool) (g : ℕ) (ts : List Thread) → ((n : ℕ) → occurs n (ids_of ts) ≤ 1) → list_all (λ n. q (thread_in ts n)) (ids_in g ts) ≡ list_all (λ t. q (Some t)) (filter (in_group g) ts)
all_found q g ts once = sym (list_all-map q (thread_in ts) (ids_in g ts)) ∙ (ap (list_all q) (found (in_group g) ts once) ∙ list_all-map q Some (filter (in_group g) ts))

-- the first of a list that isn't empty
abbrev first_of : List (Option Thread) → Option Thread
first_of [] = None
first_of (o ∷ os) = o

abbrev later : List (Option Thread) → List (Option Thread)
later [] = []
later (o ∷ os) = os

at_both : (f : ℕ → Option Thread) (ns : List ℕ) (ms : List Thread) (i : ℕ) (d : Thread) → map f ns ≡ map Some ms → i < length ms → f (get_or ns i 0) ≡ Some (get_or ms i d)
at_both f ns [] i d e h = absurd (omega (arith, h))
at_both f [] (m ∷ ms) i d e h = cc
at_both f (n ∷ ns) (m ∷ ms) zero d e h = ap first_of e
at_both f (n ∷ ns) (m ∷ ms) (suc i) d e h = at_both f ns ms i d (ap later e) (omega (arith, h))

pub nth : (ms : List Thread) (i : ℕ) → i < length ms → Thread
nth [] i h = absurd (omega (arith, h))
nth (m ∷ ms) zero h = m
nth (m ∷ ms) (suc i) h = nth ms i (omega (arith, h))

-- the one at a place of the group has the id there
pub found_at : (g : ℕ) (ts : List Thread) (i : ℕ) (d : Thread) → ((n : ℕ) → occurs n (ids_of ts) ≤ 1) → i < length (filter (in_group g) ts) → thread_in ts (get_or (ids_in g ts) i 0) ≡ Some (get_or (filter (in_group g) ts) i d)
found_at g ts i d once h = at_both (thread_in ts) (ids_in g ts) (filter (in_group g) ts) i d (found (in_group g) ts once) h

-- which is the one at that place
pub member_found : (g i : ℕ) (ts : List Thread) → ((n : ℕ) → occurs n (ids_of ts) ≤ 1) → i < length (filter (in_group g) ts) → thread_in ts (get_or (ids_in g ts) i 0) ≡ slice_get (filter (in_group g) ts) i
member_found g i ts once h =
    let d = nth (filter (in_group g) ts) i h in
    found_at g ts i d once h ∙ sym (slice_get-get_or (filter (in_group g) ts) i d h)

-- each is changed

-- a change of the thread of each id, one after the other
abbrev pub changed_each : (Thread → Thread) → List ℕ → List Thread → List Thread
changed_each f [] ts = ts
changed_each f (n ∷ ns) ts = changed_each f ns (changed n f ts)

aside : (f : Thread → Thread) (ns : List ℕ) (u : Thread) (ts : List Thread) → occurs u.id ns ≤ 0 → changed_each f ns (u ∷ ts) ≡ u ∷ changed_each f ns ts
aside f [] u ts h = refl
aside f (n ∷ ns) u ts h = go (cases_eq u.id n) (aside f ns u (changed n f ts))
  where
    go : (u.id ≡ n) ⊎ (u.id ≡ n → ⊥) → (occurs u.id ns ≤ 0 → changed_each f ns (u ∷ changed n f ts) ≡ u ∷ changed_each f ns (changed n f ts)) → changed_each f (n ∷ ns) (u ∷ ts) ≡ u ∷ changed_each f (n ∷ ns) ts
    go (inl e) r = absurd (omega (arith, h, ap {B = ℕ} (λ (b : Bool). if b then 1 else 0) (eq-eqb n u.id (sym e))))
    go (inr e) r = ap (λ (b : Bool). changed_each f ns (if b then f u ∷ ts else u ∷ changed n f ts)) (ne_eqb u.id n e) ∙ r (omega (arith, h))

pub each_changed : (g : ℕ) (f : Thread → Thread) → ((t : Thread) → Same t (f t)) → (ts : List Thread) → ((n : ℕ) → occurs n (ids_of ts) ≤ 1) → changed_each f (ids_in g ts) ts ≡ map (at_group g f) ts
each_changed g f s [] once = refl
each_changed g f s (t ∷ ts) once = go (t.group == g) (each_changed g f s ts (λ n. omega (arith, once n)))
  where
    left : occurs t.id (ids_in g ts) ≤ 0
    left = omega (arith, once t.id, occurs_in t.id (in_group g) ts, ap {B = ℕ} (λ (b : Bool). if b then 1 else 0) (eq-eqb t.id t.id refl))

    go : (b : Bool) → changed_each f (ids_in g ts) ts ≡ map (at_group g f) ts → changed_each f (ids_of (cond b (t ∷ filter (in_group g) ts) (filter (in_group g) ts))) (t ∷ ts) ≡ (if b then f t else t) ∷ map (at_group g f) ts
    go true r =
        ap (λ (b : Bool). changed_each f (ids_in g ts) (if b then f t ∷ ts else t ∷ changed t.id f ts)) (eq-eqb t.id t.id refl)
        ∙ (aside f (ids_in g ts) (f t) ts (omega (arith, left, ap (λ (n : ℕ). occurs n (ids_in g ts)) (s t).id)) ∙ ap (λ us. f t ∷ us) r)
    go false r = aside f (ids_in g ts) t ts left ∙ ap (λ us. t ∷ us) r

none_left : (ns : List ℕ) (i : ℕ) → length ns ≤ i → drop i ns ≡ []
none_left [] zero h = refl
none_left [] (suc i) h = refl
none_left (n ∷ ns) zero h = absurd (omega (arith, h))
none_left (n ∷ ns) (suc i) h = none_left ns i (omega (arith, h))

-- once the thread of each id of the group is changed, all of the group are
pub all_changed : (g : ℕ) (f : Thread → Thread) → ((t : Thread) → Same t (f t)) → (ts us : List Thread) (ns : List ℕ) (i : ℕ) → ((n : ℕ) → occurs n (ids_of ts) ≤ 1) → ns ≡ ids_in g ts → length ns ≤ i
    → changed_each f (drop i ns) us ≡ changed_each f ns ts → us ≡ map (at_group g f) ts
all_changed g f s ts us ns i once e le h = sym (ap (λ ms. changed_each f ms us) (none_left ns i le)) ∙ (h ∙ (ap (λ ms. changed_each f ms ts) e ∙ each_changed g f s ts once))
