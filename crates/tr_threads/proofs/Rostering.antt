-- What a change of the list of all threads makes of the roster of a group.
use Rattle.std.proofs.Common.{◌≡◌, ◌==◌, ◌&&◌, ◌+◌, ◌<◌, ◌≤◌, ◌∙◌, ℕ, zero, suc, List, [], ◌∷◌, ◌++◌, Bool, true, false, cond, if◌then◌else◌, filter, length, map, set, get_or, remove, take, arith, refl, ap, sym, eq-eqb, ◌⊎◌, inl, inr}
use Rattle.std.specs.List.{list_any}
use Rattle.std.proofs.lemmas.Bool.{cases_eq, ne_eqb}
use Rattle.std.proofs.lemmas.List.{get_or-map, map-append, map-set, take_more}
use Rattle.std.proofs.Math.Seq.{map-set_same}
use Rattle.tr_tracee.specs.declared.thread.Thread.{Thread}
use Rattle.tr_tracee.specs.Lives.{is_dead, is_live}
use Rattle.tr_tracee.specs.Threads.{in_group, is_traced}
use Rattle.tr_model.specs.Journals.{occurs}
use Rattle.tr_model.specs.Tables.{ids_of}
use Rattle.tr_model.proofs.Measures.{total, total-append}
use Rattle.tr_model.proofs.OneFate.{one}
use Rattle.tr_index.specs.Counts.{bool_to_nat}
use Rattle.tr_threads.specs.Kept.{IsThreads}
use Rattle.tr_threads.specs.Rosters.{Counts, HasRow, IsSmall, RosterView, no_one, rewritten, roster_in, roster_of, unless_empty, with_last, without}
use Rattle.tr_index.specs.Places.{place_in}
use Rattle.tr_index.proofs.Indexing.{once_pushed, once_removed}
use Rattle.tr_model.proofs.Costs.{filter-le-length}
use Rattle.tr_threads.specs.Rows.{blocked_word, runnable_word}
use Rattle.tr_threads.proofs.Members.{at_rank, members_added, members_gone, members_written, others_gone, rank, rank_within, unmoved}
use Rattle.tr_index.proofs.Positions.{place_at}
use Rattle.tr_threads.proofs.Rosters.{in_all, is_of}
use Rattle.tr_threads.proofs.ThreadLists.{ids_append, ids_length, ids_removed, ids_written}

removed_mapped : (f : Thread → ℕ) (ts : List Thread) (i : ℕ) → map f (remove ts i) ≡ remove (map f ts) i
removed_mapped f [] zero = refl
removed_mapped f [] (suc i) = refl
removed_mapped f (t ∷ ts) zero = refl
removed_mapped f (t ∷ ts) (suc i) = ap (λ (ns : List ℕ). f t ∷ ns) (removed_mapped f ts i)

-- counts as sums

-- whether the thread is one that is counted in the group
abbrev pub counts : ℕ → (Thread → Bool) → Thread → ℕ
counts g p t = bool_to_nat (t.group == g && p t)

pub counted : (g : ℕ) (p : Thread → Bool) (ts : List Thread) → length (filter p (filter (in_group g) ts)) ≡ total (counts g p) ts
counted g p [] = refl
counted g p (t ∷ ts) = go (t.group == g) (counted g p ts)
  where
    rest : List Thread
    rest = filter (in_group g) ts

    inner : (b : Bool) → length (filter p rest) ≡ total (counts g p) ts → length (cond b (t ∷ filter p rest) (filter p rest)) ≡ bool_to_nat b + total (counts g p) ts
    inner true h = omega (arith, h)
    inner false h = omega (arith, h)

    go : (a : Bool) → length (filter p rest) ≡ total (counts g p) ts → length (filter p (cond a (t ∷ rest) rest)) ≡ bool_to_nat (a && p t) + total (counts g p) ts
    go true h = inner (p t) h
    go false h = omega (arith, h)

pub total_written : (m : Thread → ℕ) (ts : List Thread) (i : ℕ) (d y : Thread) → i < length ts → total m (set ts i y) + m (get_or ts i d) ≡ total m ts + m y
total_written m [] i d y h = absurd (omega (arith, h))
total_written m (t ∷ ts) zero d y h = omega arith
total_written m (t ∷ ts) (suc i) d y h = omega (arith, total_written m ts i d y (omega (arith, h)))

pub total_gone : (m : Thread → ℕ) (ts : List Thread) (i : ℕ) (d : Thread) → i < length ts → total m (remove ts i) + m (get_or ts i d) ≡ total m ts
total_gone m [] i d h = absurd (omega (arith, h))
total_gone m (t ∷ ts) zero d h = omega arith
total_gone m (t ∷ ts) (suc i) d h = omega (arith, total_gone m ts i d (omega (arith, h)))

pub total_front : (m : Thread → ℕ) (ts : List Thread) (i : ℕ) (d : Thread) → i < length ts → total m (take i ts) + m (get_or ts i d) ≤ total m ts
total_front m [] i d h = absurd (omega (arith, h))
total_front m (t ∷ ts) zero d h = omega arith
total_front m (t ∷ ts) (suc i) d h = omega (arith, total_front m ts i d (omega (arith, h)))

-- the ids of a group's threads

abbrev pub ids_in : ℕ → List Thread → List ℕ
ids_in g ts = ids_of (filter (in_group g) ts)

pub occurs_in : (n : ℕ) (p : Thread → Bool) (ts : List Thread) → occurs n (ids_of (filter p ts)) ≤ occurs n (ids_of ts)
occurs_in n p [] = omega arith
occurs_in n p (t ∷ ts) = go (p t) (occurs_in n p ts)
  where
    go : (b : Bool) → occurs n (ids_of (filter p ts)) ≤ occurs n (ids_of ts) → occurs n (ids_of (cond b (t ∷ filter p ts) (filter p ts))) ≤ (if t.id == n then 1 else 0) + occurs n (ids_of ts)
    go true r = omega (arith, r)
    go false r = omega (arith, r)

pub placed : (g : ℕ) (ts : List Thread) (i : ℕ) (d : Thread) → i < length ts → ((n : ℕ) → occurs n (ids_of ts) ≤ 1) → ((get_or ts i d).group == g) ≡ true → place_in (get_or ts i d).id (ids_in g ts) ≡ rank g ts i
placed g ts i d h once e =
    let ms : List Thread = filter (in_group g) ts in
    let t : Thread = get_or ts i d in
    let r : ℕ = rank g ts i in
    let within : r < length ms = rank_within g ts i d h e in
    let at : get_or (ids_of ms) r d.id ≡ t.id = get_or-map (λ (x : Thread). x.id) ms r d d.id within ∙ ap (λ (x : Thread). x.id) (at_rank g ts i d h e) in
    place_at t.id r d.id (ids_of ms) (omega (arith, within, ids_length ms)) at (omega (arith, once t.id, occurs_in t.id (in_group g) ts))

-- the rosters

by_parts : (r s : RosterView) → r.ids ≡ s.ids → r.blocked ≡ s.blocked → r.runnable ≡ s.runnable → r.live ≡ s.live → r.dead ≡ s.dead → r.traced ≡ s.traced → r.marked ≡ s.marked → r ≡ s
by_parts r s a b c d e f g = λ j. record { ids = a j; blocked = b j; runnable = c j; live = d j; dead = e j; traced = f j; marked = g j }

pub roster_written : (g : ℕ) (ts : List Thread) (i : ℕ) (d y : Thread) → i < length ts → ((n : ℕ) → occurs n (ids_of ts) ≤ 1) → y.id ≡ (get_or ts i d).id → y.group ≡ (get_or ts i d).group
    → roster_of (filter (in_group g) (set ts i y)) ≡ (if (get_or ts i d).group == g then rewritten (get_or ts i d) y (roster_of (filter (in_group g) ts)) else roster_of (filter (in_group g) ts))
roster_written g ts i d y h once e k = go (t.group == g) refl all
  where
    t : Thread
    t = get_or ts i d

    us : List Thread
    us = filter (in_group g) (set ts i y)

    ms : List Thread
    ms = filter (in_group g) ts

    all : (p : Thread → Bool) → length (filter p us) + bool_to_nat (t.group == g && p t) ≡ length (filter p ms) + bool_to_nat (t.group == g && p y)
    all p = omega (arith, counted g p (set ts i y), counted g p ts, total_written (counts g p) ts i d y h, ap (λ (n : ℕ). bool_to_nat (n == g && p y)) k)

    r : ℕ
    r = rank g ts i

    theirs : (t.group == g) ≡ true → us ≡ set ms r y
    theirs c = members_written g ts i d y h c (ap (λ (n : ℕ). n == g) k ∙ c)

    words : (t.group == g) ≡ true → (f : Thread → ℕ) → map f us ≡ set (map f ms) (place_in t.id (ids_of ms)) (f y)
    words c f = ap (map f) (theirs c) ∙ (map-set f ms r y ∙ ap (λ (n : ℕ). set (map f ms) n (f y)) (sym (placed g ts i d h once c)))

    ids : (t.group == g) ≡ true → ids_of us ≡ ids_of ms
    ids c = ap ids_of (theirs c) ∙ map-set_same (λ (x : Thread). x.id) ms r y d (e ∙ ap (λ (x : Thread). x.id) (sym (at_rank g ts i d h c)))

    go : (b : Bool) → (t.group == g) ≡ b → ((p : Thread → Bool) → length (filter p us) + bool_to_nat (b && p t) ≡ length (filter p ms) + bool_to_nat (b && p y)) → roster_of us ≡ (if b then rewritten t y (roster_of ms) else roster_of ms)
    go true c q = by_parts (roster_of us) (rewritten t y (roster_of ms)) (ids c) (words c blocked_word) (words c runnable_word) (omega (arith, q (λ x. is_live x.life))) (omega (arith, q (λ x. is_dead x.life))) (omega (arith, q is_traced)) (omega (arith, q (λ x. x.stop_mark)))
    go false c q = ap roster_of (unmoved g ts i d y c (ap (λ (n : ℕ). n == g) k ∙ c))

pub roster_added : (g : ℕ) (ts : List Thread) (t : Thread) → roster_of (filter (in_group g) (ts ++ t ∷ [])) ≡ (if t.group == g then with_last t (roster_of (filter (in_group g) ts)) else roster_of (filter (in_group g) ts))
roster_added g ts t = go (t.group == g) (members_added g ts t) all
  where
    us : List Thread
    us = filter (in_group g) (ts ++ t ∷ [])

    ms : List Thread
    ms = filter (in_group g) ts

    all : (p : Thread → Bool) → length (filter p us) ≡ length (filter p ms) + bool_to_nat (t.group == g && p t)
    all p = omega (arith, counted g p (ts ++ t ∷ []), counted g p ts, total-append (counts g p) ts (t ∷ []))

    words : us ≡ ms ++ t ∷ [] → (f : Thread → ℕ) → map f us ≡ map f ms ++ f t ∷ []
    words e f = ap (map f) e ∙ map-append f ms (t ∷ [])

    go : (b : Bool) → us ≡ (if b then ms ++ t ∷ [] else ms) → ((p : Thread → Bool) → length (filter p us) ≡ length (filter p ms) + bool_to_nat (b && p t)) → roster_of us ≡ (if b then with_last t (roster_of ms) else roster_of ms)
    go true e q = by_parts (roster_of us) (with_last t (roster_of ms)) (words e (λ x. x.id)) (words e blocked_word) (words e runnable_word) (q (λ x. is_live x.life)) (q (λ x. is_dead x.life)) (q is_traced) (q (λ x. x.stop_mark))
    go false e q = ap roster_of e

pub roster_gone : (g : ℕ) (ts : List Thread) (i : ℕ) (d : Thread) → i < length ts → ((n : ℕ) → occurs n (ids_of ts) ≤ 1)
    → roster_of (filter (in_group g) (remove ts i)) ≡ (if (get_or ts i d).group == g then without (get_or ts i d) (roster_of (filter (in_group g) ts)) else roster_of (filter (in_group g) ts))
roster_gone g ts i d h once = go (t.group == g) refl all
  where
    t : Thread
    t = get_or ts i d

    us : List Thread
    us = filter (in_group g) (remove ts i)

    ms : List Thread
    ms = filter (in_group g) ts

    all : (p : Thread → Bool) → length (filter p us) + bool_to_nat (t.group == g && p t) ≡ length (filter p ms)
    all p = omega (arith, counted g p (remove ts i), counted g p ts, total_gone (counts g p) ts i d h)

    words : (t.group == g) ≡ true → (f : Thread → ℕ) → map f us ≡ remove (map f ms) (place_in t.id (ids_of ms))
    words c f = ap (map f) (members_gone g ts i d h c) ∙ (removed_mapped f ms (rank g ts i) ∙ ap (λ (n : ℕ). remove (map f ms) n) (sym (placed g ts i d h once c)))

    go : (b : Bool) → (t.group == g) ≡ b → ((p : Thread → Bool) → length (filter p us) + bool_to_nat (b && p t) ≡ length (filter p ms)) → roster_of us ≡ (if b then without t (roster_of ms) else roster_of ms)
    go true c q = by_parts (roster_of us) (without t (roster_of ms)) (words c (λ x. x.id)) (words c blocked_word) (words c runnable_word) (omega (arith, q (λ x. is_live x.life))) (omega (arith, q (λ x. is_dead x.life))) (omega (arith, q is_traced)) (omega (arith, q (λ x. x.stop_mark)))
    go false c q = ap roster_of (others_gone g ts i d c)

pub small : (ms : List Thread) → length ms ≤ 64 → IsSmall (roster_of ms)
small ms h = record {
  live = omega (arith, h, filter-le-length (λ (x : Thread). is_live x.life) ms);
  dead = omega (arith, h, filter-le-length (λ (x : Thread). is_dead x.life) ms);
  traced = omega (arith, h, filter-le-length is_traced ms);
  marked = omega (arith, h, filter-le-length (λ (x : Thread). x.stop_mark) ms);
}

pub counts_one : (ts : List Thread) (i : ℕ) (d : Thread) → i < length ts → Counts (get_or ts i d) (roster_of (filter (in_group (get_or ts i d).group) ts))
counts_one ts i d h = record { live = all (λ x. is_live x.life); dead = all (λ x. is_dead x.life); traced = all is_traced; marked = all (λ x. x.stop_mark) }
  where
    t : Thread
    t = get_or ts i d

    all : (p : Thread → Bool) → bool_to_nat (p t) ≤ length (filter p (filter (in_group t.group) ts))
    all p = omega (arith, counted t.group p ts, total_gone (counts t.group p) ts i d h, ap (λ b. bool_to_nat (b && p t)) (eq-eqb t.group t.group refl))

pub row_one : (ts : List Thread) (i : ℕ) (d : Thread) → i < length ts → ((n : ℕ) → occurs n (ids_of ts) ≤ 1) → HasRow (get_or ts i d) (roster_of (filter (in_group (get_or ts i d).group) ts))
row_one ts i d h once = record { blocked = word blocked_word; runnable = word runnable_word }
  where
    t : Thread
    t = get_or ts i d

    ms : List Thread
    ms = filter (in_group t.group) ts

    mine : (t.group == t.group) ≡ true
    mine = eq-eqb t.group t.group refl

    word : (f : Thread → ℕ) → get_or (map f ms) (place_in t.id (ids_of ms)) (f t) ≡ f t
    word f = ap (λ (n : ℕ). get_or (map f ms) n (f t)) (placed t.group ts i d h once mine) ∙ (get_or-map f ms (rank t.group ts i) d (f t) (rank_within t.group ts i d h mine) ∙ ap f (at_rank t.group ts i d h mine))

-- the group of a thread has a thread
pub someone : (ts : List Thread) (i : ℕ) (d : Thread) → i < length ts → 0 < length (filter (in_group (get_or ts i d).group) ts)
someone ts i d h = omega (arith, in_all (get_or ts i d).group ts, total_gone (is_of (get_or ts i d).group) ts i d h, ap one (eq-eqb (get_or ts i d).group (get_or ts i d).group refl))

-- there is room for the next one, where all have it
pub room_for : (g : ℕ) (ts : List Thread) (i : ℕ) (d : Thread) → i < length ts → (get_or ts i d).group ≡ g → length (filter (in_group g) ts) ≤ 64 → length (filter (in_group g) (take i ts)) < 64
room_for g ts i d h e few = omega (arith, few, in_all g ts, in_all g (take i ts), total_front (is_of g) ts i d h, ap one (eq-eqb (get_or ts i d).group g e))

pub room_before : (ts : List Thread) (i : ℕ) (d : Thread) → i < length ts → ((g : ℕ) → length (filter (in_group g) ts) ≤ 64) → length (filter (in_group (get_or ts i d).group) (take i ts)) < 64
room_before ts i d h few = room_for (get_or ts i d).group ts i d h refl (few (get_or ts i d).group)

pub kept_roster : (ms : List Thread) → unless_empty (roster_of ms) ≡ roster_of ms
kept_roster [] = refl
kept_roster (m ∷ ms) = ap (λ b. if b then no_one else roster_of (m ∷ ms)) (ne_eqb (length (ids_of (m ∷ ms))) 0 (λ e. omega (arith, e)))

-- all that is kept beside the threads

module _ (ts : List Thread) (ids : List ℕ) (rs : List (ℕ × RosterView)) (h : IsThreads ts ids rs) where
  pub is_small : (g : ℕ) → IsSmall (roster_in rs g)
  is_small g = rw (h.told g) (small (filter (in_group g) ts) (h.few g))

  pub is_counted : (i : ℕ) (d : Thread) → i < length ts → Counts (get_or ts i d) (roster_in rs (get_or ts i d).group)
  is_counted i d k = rw (h.told (get_or ts i d).group) (counts_one ts i d k)

  once_in : (n : ℕ) → occurs n (ids_of ts) ≤ 1
  once_in n = rw (sym h.indexed) (h.once n)

  pub is_once : (n g : ℕ) → occurs n (roster_in rs g).ids ≤ 1
  is_once n g = rw (h.told g) (omega (arith, once_in n, occurs_in n (in_group g) ts))

  pub has_row : (i : ℕ) (d : Thread) → i < length ts → HasRow (get_or ts i d) (roster_in rs (get_or ts i d).group)
  has_row i d k = rw (h.told (get_or ts i d).group) (row_one ts i d k once_in)

  pub is_there : (i : ℕ) (d : Thread) → i < length ts → 0 < length (roster_in rs (get_or ts i d).group).ids
  is_there i d k = rw (h.told (get_or ts i d).group) (omega (arith, someone ts i d k, ids_length (filter (in_group (get_or ts i d).group) ts)))

  pub kept_written : (us : List (ℕ × RosterView)) (i : ℕ) (d y : Thread) → i < length ts → y.id ≡ (get_or ts i d).id → y.group ≡ (get_or ts i d).group
      → ((g : ℕ) → roster_in us g ≡ (if (get_or ts i d).group == g then rewritten (get_or ts i d) y (roster_in rs g) else roster_in rs g)) → IsThreads (set ts i y) ids us
  kept_written us i d y k e f q = record {
    indexed = h.indexed ∙ sym (ids_written ts i d y e k);
    once = h.once;
    told = λ g. q g ∙ (ap (λ r. if (get_or ts i d).group == g then rewritten (get_or ts i d) y r else r) (h.told g) ∙ sym (roster_written g ts i d y k once_in e f));
    few = λ g. omega (arith, h.few g, in_all g ts, in_all g (set ts i y), total_written (is_of g) ts i d y k, ap (λ (n : ℕ). one (n == g)) f);
  }

  pub kept_gone : (ns : List ℕ) (us : List (ℕ × RosterView)) (i : ℕ) (d : Thread) → i < length ts → ns ≡ remove ids i
      → ((g : ℕ) → roster_in us g ≡ (if (get_or ts i d).group == g then unless_empty (without (get_or ts i d) (roster_in rs g)) else roster_in rs g)) → IsThreads (remove ts i) ns us
  kept_gone ns us i d k e q = record {
    indexed = e ∙ (ap (λ (ms : List ℕ). remove ms i) h.indexed ∙ sym (ids_removed ts i));
    once = λ n. rw e (once_removed ids i h.once n);
    told = λ g. told g (t.group == g) (q g) (roster_gone g ts i d k once_in);
    few = λ g. omega (arith, h.few g, in_all g ts, in_all g (remove ts i), total_gone (is_of g) ts i d k);
  }
    where
      t : Thread
      t = get_or ts i d

      told : (g : ℕ) (b : Bool) → roster_in us g ≡ (if b then unless_empty (without t (roster_in rs g)) else roster_in rs g)
          → roster_of (filter (in_group g) (remove ts i)) ≡ (if b then without t (roster_of (filter (in_group g) ts)) else roster_of (filter (in_group g) ts))
          → roster_in us g ≡ roster_of (filter (in_group g) (remove ts i))
      told g true p r = p ∙ (ap (λ s. unless_empty (without t s)) (h.told g) ∙ (ap unless_empty (sym r) ∙ kept_roster (filter (in_group g) (remove ts i))))
      told g false p r = p ∙ (h.told g ∙ sym r)

  pub kept_added : (ns : List ℕ) (us : List (ℕ × RosterView)) (t : Thread) → ns ≡ ids ++ t.id ∷ [] → list_any (λ n. n == t.id) ids ≡ false → length (filter (in_group t.group) ts) < 64
      → ((g : ℕ) → roster_in us g ≡ (if t.group == g then with_last t (roster_in rs g) else roster_in rs g)) → IsThreads (ts ++ t ∷ []) ns us
  kept_added ns us t e new room q = record {
    indexed = e ∙ (ap (λ (ms : List ℕ). ms ++ t.id ∷ []) h.indexed ∙ sym (ids_append ts (t ∷ [])));
    once = λ n. rw e (once_pushed t.id ids new h.once n);
    told = λ g. q g ∙ (ap (λ r. if t.group == g then with_last t r else r) (h.told g) ∙ sym (roster_added g ts t));
    few = λ g. fits g (cases_eq t.group g);
  }
    where
      fits : (g : ℕ) → (t.group ≡ g) ⊎ (t.group ≡ g → ⊥) → length (filter (in_group g) (ts ++ t ∷ [])) ≤ 64
      fits g (inl e) = omega (arith, in_all g (ts ++ t ∷ []), in_all g ts, total-append (is_of g) ts (t ∷ []), ap (λ (n : ℕ). length (filter (in_group n) ts)) e, room, ap one (eq-eqb t.group g e))
      fits g (inr e) = omega (arith, in_all g (ts ++ t ∷ []), in_all g ts, total-append (is_of g) ts (t ∷ []), h.few g, ap one (ne_eqb t.group g e))

-- a thread takes the row of a leader that was of another group

module _ (ts : List Thread) (ids : List ℕ) (rs : List (ℕ × RosterView)) (h : IsThreads ts ids rs) (i : ℕ) (d : Thread) (k : i < length ts) (l : ℕ) (x y : Thread) (m : l < length (remove ts i)) (same : y.group ≡ (get_or ts i d).group) where
  pub few_moved : (g : ℕ) → length (filter (in_group g) (set (remove ts i) l y)) ≤ 64
  few_moved g = omega (arith, h.few g, in_all g ts, in_all g (set (remove ts i) l y), total_gone (is_of g) ts i d k, total_written (is_of g) (remove ts i) l x y m, ap (λ (n : ℕ). one (n == g)) same)

  pub is_there_too : 0 < length (roster_in rs (get_or (remove ts i) l x).group).ids
  is_there_too = let g = (get_or (remove ts i) l x).group in rw (h.told g) (omega (arith, someone (remove ts i) l x m, in_all g (remove ts i), in_all g ts, total_gone (is_of g) ts i d k, ids_length (filter (in_group g) ts)))

  pub kept_moved : (ns : List ℕ) (us : List (ℕ × RosterView)) → y.id ≡ (get_or (remove ts i) l x).id → ns ≡ remove ids i
      → ((g : ℕ) → roster_in us g
      ≡ (
      if (get_or (remove ts i) l x).group == g then unless_empty (roster_of (filter (in_group (get_or (remove ts i) l x).group) (set (remove ts i) l y)))
      else (if y.group == g then unless_empty (roster_of (filter (in_group y.group) (set (remove ts i) l y))) else roster_in rs g)
      ))
      → IsThreads (set (remove ts i) l y) ns us
  kept_moved ns us e n q = record {
    indexed = n ∙ (ap (λ (ms : List ℕ). remove ms i) h.indexed ∙ (sym (ids_removed ts i) ∙ sym (ids_written (remove ts i) l x y e m)));
    once = λ j. rw n (once_removed ids i h.once j);
    told = λ g. told g (cases_eq z.group g) (cases_eq y.group g) (q g);
    few = few_moved;
  }
    where
      z : Thread
      z = get_or (remove ts i) l x

      vs : List Thread
      vs = set (remove ts i) l y

      once : (n : ℕ) → occurs n (ids_of ts) ≤ 1
      once n = rw (sym h.indexed) (h.once n)

      told : (g : ℕ) → (z.group ≡ g) ⊎ (z.group ≡ g → ⊥) → (y.group ≡ g) ⊎ (y.group ≡ g → ⊥)
          → roster_in us g ≡ (if z.group == g then unless_empty (roster_of (filter (in_group z.group) vs)) else (if y.group == g then unless_empty (roster_of (filter (in_group y.group) vs)) else roster_in rs g))
          → roster_in us g ≡ roster_of (filter (in_group g) vs)
      told g (inl a) c p =
          p ∙ (ap (λ b. if b then unless_empty (roster_of (filter (in_group z.group) vs)) else (if y.group == g then unless_empty (roster_of (filter (in_group y.group) vs)) else roster_in rs g)) (eq-eqb z.group g a)
          ∙ (kept_roster (filter (in_group z.group) vs) ∙ ap (λ (n : ℕ). roster_of (filter (in_group n) vs)) a))
      told g (inr a) (inl c) p =
          p ∙ (ap (λ b. if b then unless_empty (roster_of (filter (in_group z.group) vs)) else (if y.group == g then unless_empty (roster_of (filter (in_group y.group) vs)) else roster_in rs g)) (ne_eqb z.group g a)
          ∙ (ap (λ b. if b then unless_empty (roster_of (filter (in_group y.group) vs)) else roster_in rs g) (eq-eqb y.group g c)
          ∙ (kept_roster (filter (in_group y.group) vs) ∙ ap (λ (n : ℕ). roster_of (filter (in_group n) vs)) c)))
      told g (inr a) (inr c) p =
          p ∙ (ap (λ b. if b then unless_empty (roster_of (filter (in_group z.group) vs)) else (if y.group == g then unless_empty (roster_of (filter (in_group y.group) vs)) else roster_in rs g)) (ne_eqb z.group g a)
          ∙ (ap (λ b. if b then unless_empty (roster_of (filter (in_group y.group) vs)) else roster_in rs g) (ne_eqb y.group g c)
          ∙ (h.told g ∙ (sym (roster_gone g ts i d k once ∙ ap (λ b. if b then without (get_or ts i d) (roster_of (filter (in_group g) ts)) else roster_of (filter (in_group g) ts)) (ne_eqb (get_or ts i d).group g (λ f. c (same ∙ f))))
          ∙ ap roster_of (sym (unmoved g (remove ts i) l x y (ne_eqb z.group g a) (ne_eqb y.group g c)))))))

-- as the code collects them

-- what one more thread makes of the roster of a group
pub collected : (g : ℕ) (ts : List Thread) (i : ℕ) (d : Thread) → i < length ts → roster_of (filter (in_group g) (take (i + 1) ts)) ≡ (if (get_or ts i d).group == g then with_last (get_or ts i d) (roster_of (filter (in_group g) (take i ts))) else roster_of (filter (in_group g) (take i ts)))
collected g ts i d h = ap (λ us. roster_of (filter (in_group g) us)) (take_more ts i d h) ∙ roster_added g (take i ts) (get_or ts i d)
