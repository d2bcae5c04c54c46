-- What a change of the list of all threads makes of those that are listed under their tracers.
use Rattle.std.proofs.Common.{◌≡◌, ◌==◌, ◌+◌, ◌<◌, ◌≤◌, ◌∙◌, ℕ, List, [], ◌∷◌, ◌++◌, Bool, true, false, Option, Some, None, if◌then◌else◌, filter, is_some, leb, length, map, set, get_or, remove, take, arith, refl, ap, sym, subst, eq-eqb}
use Rattle.std.specs.List.{insert}
use Rattle.std.proofs.lemmas.Bool.{eqb-true}
use Rattle.std.proofs.lemmas.List.{length-set}
use Rattle.std.proofs.lemmas.List.Edits.{insert_end, length-insert, length-remove}
use Rattle.std.proofs.lemmas.List.Elements.{filter_agree}
use Rattle.std.proofs.lemmas.List.Sorted.{IsNonDecreasingBy-insert}
use Rattle.tr_tracee.specs.declared.thread.Thread.{Thread}
use Rattle.tr_model.specs.Journals.{occurs}
use Rattle.tr_model.specs.Tables.{ids_of}
use Rattle.tr_model.proofs.Costs.{filter-le-length}
use Rattle.tr_index.specs.Counts.{bool_to_nat}
use Rattle.tr_index.specs.Multisets.{is_number}
use Rattle.tr_index.proofs.Multisets.{rises_gone}
use Rattle.tr_threads.specs.declared.tracee_list.Listed.{Listed}
use Rattle.tr_threads.specs.TraceeLists.{IsListing, MayRelist, Rises, ids_under, is_before, is_under, rank, relisted, with_last}
use Rattle.tr_threads.proofs.Counting.{counted_added, counted_gone, counted_written}
use Rattle.tr_threads.proofs.Parted.{Parts, all_parts, parts_count, parts_fit, parts_high, parts_low, parts_parted}
use Rattle.tr_threads.proofs.ThreadLists.{ids_mapped}
use Rattle.tr_threads.proofs.TraceeRows.{front, front_not_above, front_not_below, low, not_after, parts_rows, row_at, under_count}
use Rattle.tr_threads.proofs.Traced.{edited, edited_alike, list_added, list_gone, list_put, list_written, ranked, within_kept}

-- a row goes from under the one tracer, or comes under the other, as the one after so many of that tracer's
pub record IsEdited (k : ℕ → ℕ) (id : ℕ) (before after : Option ℕ) (ls ms : List Listed) : Type 0 where
  pub rises : Rises ms
  pub ids : (b : ℕ) → ids_under b ms ≡ edited (is_number b before) (is_number b after) (k b) id (ids_under b ls)
  pub sized : length ms + bool_to_nat (is_some before) ≡ length ls + bool_to_nat (is_some after)

module _ (f : ℕ → Bool) (k : ℕ → ℕ) (a : ℕ) (ls : List Listed) (rises : Rises ls) (parts : Parts f (ids_under a ls) (k a)) where
  abbrev n : ℕ
  n = length (filter (front f a) ls)

  placed : Parts (front f a) ls (low a ls + k a)
  placed = parts_rows a f ls (low a ls + k a) (k a) refl rises parts

  pub fronts : n ≡ low a ls + k a
  fronts = parts_count (front f a) ls (low a ls + k a) placed

  fits : k a ≤ length (ids_under a ls)
  fits = parts_fit f (ids_under a ls) (k a) parts

  -- of the tracer's so many stand before
  counted : (b : ℕ) → (a == b) ≡ true → length (filter (is_under b) (take n ls)) ≡ k b
  counted b e = subst (λ (c : ℕ). length (filter (is_under c) (take n ls)) ≡ k c) (eqb-true a b e) (under_count a ls n (k a) fronts rises fits)

  pub row_goes : (id : ℕ) → k a < length (ids_under a ls) → IsEdited k id (Some a) None ls (remove ls n)
  row_goes id there = record {
    rises = rises_gone (λ (l : Listed). l.tracer) ls n at.0 rises;
    ids = λ b. sym (go b (a == b) refl);
    sized = omega (arith, length-remove ls n at.0);
  }
    where
      at : (n < length ls) × ((d : Listed) → (get_or ls n d).tracer ≡ a)
      at = row_at a ls n (k a) fronts rises there

      d : Listed
      d = record { tracer = a; id = id }

      go : (b : ℕ) (c : Bool) → (a == b) ≡ c → edited c false (k b) id (ids_under b ls) ≡ ids_under b (remove ls n)
      go b c e =
          let here : c ≡ is_under b (get_or ls n d) = sym e ∙ ap (λ (m : ℕ). m == b) (sym (at.1 d)) in
          shown c e ∙ (ap (λ (v : Bool). edited v false (length (filter (is_under b) (take n ls))) id (ids_under b ls)) here ∙ list_gone (λ (l : Listed). l.id) (is_under b) ls n d id at.0)
        where
          shown : (c : Bool) → (a == b) ≡ c → edited c false (k b) id (ids_under b ls) ≡ edited c false (length (filter (is_under b) (take n ls))) id (ids_under b ls)
          shown true e = ap (λ (m : ℕ). remove (ids_under b ls) m) (sym (counted b e))
          shown false e = refl

  pub row_comes : (id : ℕ) → IsEdited k id None (Some a) ls (insert ls n (record { tracer = a; id = id }))
  row_comes id = record {
    rises = IsNonDecreasingBy-insert (λ (l : Listed). l.tracer) ls n (record { tracer = a; id = id }) rises within below above;
    ids = λ b. sym (shown b (a == b) refl ∙ list_put (λ (l : Listed). l.id) (is_under b) ls n (record { tracer = a; id = id }));
    sized = omega (arith, length-insert ls n (record { tracer = a; id = id }) within);
  }
    where
      within : n ≤ length ls
      within = filter-le-length (front f a) ls

      below : (j : ℕ) (d : Listed) → j < n → (get_or ls j d).tracer ≤ a
      below j d l = front_not_above f a (get_or ls j d) (parts_high (front f a) ls (low a ls + k a) placed j d (omega (arith, l, fronts)))

      above : (j : ℕ) (d : Listed) → n ≤ j → j < length ls → a ≤ (get_or ls j d).tracer
      above j d m l = front_not_below f a (get_or ls j d) (parts_low (front f a) ls (low a ls + k a) placed j d (omega (arith, m, fronts)) l)

      shown : (b : ℕ) (c : Bool) → (a == b) ≡ c → edited false c (k b) id (ids_under b ls) ≡ edited false c (length (filter (is_under b) (take n ls))) id (ids_under b ls)
      shown b true e = ap (λ (m : ℕ). insert (ids_under b ls) m id) (sym (counted b e))
      shown b false e = refl

module _ (f : ℕ → Bool) (k : ℕ → ℕ) (ls : List Listed) (rises : Rises ls) (parts : (a : ℕ) → Parts f (ids_under a ls) (k a)) where
  apart : (a c b : ℕ) → (a == c) ≡ false → (a == b) ≡ true → (c == b) ≡ true → ⊥
  apart a c b n p q = never (sym n ∙ eq-eqb a c (omega (arith, eqb-true a b p, eqb-true c b q)))
    where
      never : false ≡ true → ⊥
      never h = cc

  abbrev gone : ℕ → List Listed
  gone a = remove ls (length (filter (front f a) ls))

  pub row_moves : (a c id : ℕ) → (a == c) ≡ false → k a < length (ids_under a ls) → IsEdited k id (Some a) (Some c) ls (insert (gone a) (length (filter (front f c) (gone a))) (record { tracer = c; id = id }))
  row_moves a c id n there = record {
    rises = second.rises;
    ids = λ b. second.ids b ∙ (ap (λ (ns : List ℕ). edited false (c == b) (k b) id ns) (first.ids b) ∙ both b (a == b) (c == b) refl refl);
    sized = omega (arith, first.sized, second.sized);
  }
    where
      first : IsEdited k id (Some a) None ls (gone a)
      first = row_goes f k a ls rises (parts a) id there

      still : ids_under c ls ≡ ids_under c (gone a)
      still = sym (first.ids c ∙ ap (λ (v : Bool). edited v false (k c) id (ids_under c ls)) n)

      second : IsEdited k id None (Some c) (gone a) (insert (gone a) (length (filter (front f c) (gone a))) (record { tracer = c; id = id }))
      second = row_comes f k c (gone a) first.rises (subst (λ (ns : List ℕ). Parts f ns (k c)) still (parts c)) id

      both : (b : ℕ) (p q : Bool) → (a == b) ≡ p → (c == b) ≡ q → edited false q (k b) id (edited p false (k b) id (ids_under b ls)) ≡ edited p q (k b) id (ids_under b ls)
      both b true true e h = absurd (apart a c b n e h)
      both b true false e h = refl
      both b false q e h = refl

-- the thread at a place is listed again

module _ (key : Thread → Option ℕ) (ts : List Thread) (ids : List ℕ) (ls : List Listed) (h : IsListing key ts ls) (e : ids ≡ ids_of ts) (once : (n : ℕ) → occurs n ids ≤ 1) (i : ℕ) (x : Thread) (l : i < length ts) (at : x ≡ get_or ts i x) where
  abbrev has : ℕ → Thread → Bool
  has a t = is_number a (key t)

  abbrev k : ℕ → ℕ
  k a = length (filter (has a) (take i ts))

  distinct : (n : ℕ) → occurs n (ids_of ts) ≤ 1
  distinct n = subst (λ (ns : List ℕ). occurs n ns ≤ 1) e (once n)

  parts : (a : ℕ) → Parts (is_before ids i) (ids_under a ls) (k a)
  parts a = subst (λ (ns : List ℕ). Parts (is_before ids i) ns (k a)) (sym (h.listed a)) (subst (λ (ns : List ℕ). Parts (is_before ns i) (ids_of (filter (has a) ts)) (k a)) (sym e) (ranked (has a) ts i distinct))

  there : (a : ℕ) → key x ≡ Some a → k a < length (ids_under a ls)
  there a s =
      omega (
        arith,
        within_kept (has a) ts i x l,
        ap (λ (ns : List ℕ). length ns) (h.listed a),
        ap (λ (t : Thread). bool_to_nat (has a t)) at,
        ap (λ (o : Option ℕ). bool_to_nat (is_number a o)) s,
        ap bool_to_nat (eq-eqb a a refl),
      )

  pub may_relist : (before after : Option ℕ) (places : ℕ) → before ≡ key x → length ls + bool_to_nat (is_some after) ≤ places + bool_to_nat (is_some before) → MayRelist ids i before after ls places
  may_relist before after places b room = record {
    parted = λ a. parts_parted (front (is_before ids i) a) ls (low a ls + k a) (parts_rows a (is_before ids i) ls (low a ls + k a) (k a) refl h.rises (parts a));
    there = λ a s. (row_at a ls (rank ids a i ls) (k a) (fronts (is_before ids i) k a ls h.rises (parts a)) h.rises (there a (sym b ∙ s))).0;
    room = room;
  }

  pub room_written : (y : Thread) (places : ℕ) → length ts ≤ places → length ls + bool_to_nat (is_some (key y)) ≤ places + bool_to_nat (is_some (key x))
  room_written y places room = omega (arith, room, h.sized, counted_written (λ t. is_some (key t)) ts i x y l, filter-le-length (λ t. is_some (key t)) (set ts i y), length-set ts i y, ap (λ (t : Thread). bool_to_nat (is_some (key t))) at)

  pub room_gone : (places : ℕ) → length ts ≤ places → length ls + bool_to_nat false ≤ places + bool_to_nat (is_some (key x))
  room_gone places room = omega (arith, room, h.sized, filter-le-length (λ t. is_some (key t)) ts)

  pub is_edited : (id : ℕ) (before after : Option ℕ) → before ≡ key x → IsEdited k id before after ls (relisted ids i id before after ls)
  is_edited id None None b = record { rises = h.rises; ids = λ c. refl; sized = refl }
  is_edited id None (Some c) b = row_comes (is_before ids i) k c ls h.rises (parts c) id
  is_edited id (Some a) None b = row_goes (is_before ids i) k a ls h.rises (parts a) id (there a (sym b))
  is_edited id (Some a) (Some c) b = go (a == c) refl
    where
      go : (v : Bool) → (a == c) ≡ v → IsEdited k id (Some a) (Some c) ls (if v then ls else insert (remove ls (rank ids a i ls)) (rank ids c i (remove ls (rank ids a i ls))) (record { tracer = c; id = id }))
      go true s = record { rises = h.rises; ids = λ m. sym (edited_alike (a == m) (c == m) (ap (λ (n : ℕ). n == m) (eqb-true a c s)) (k m) id (ids_under m ls)); sized = refl }
      go false s = row_moves (is_before ids i) k ls h.rises parts a c id s (there a (sym b))

  pub listing_written : (y : Thread) (before after : Option ℕ) (ms : List Listed) → y.id ≡ (get_or ts i x).id → before ≡ key x → after ≡ key y → ms ≡ relisted ids i y.id before after ls → IsListing key (set ts i y) ms
  listing_written y before after ms same b a m =
      let d : IsEdited k y.id before after ls ms = subst (IsEdited k y.id before after ls) (sym m) (is_edited y.id before after b) in
      record {
        rises = d.rises;
        listed = λ c.
            d.ids c
            ∙ ((λ j. edited (is_number c (b j)) (is_number c (a j)) (k c) y.id ((h.listed c ∙ ids_mapped (filter (has c) ts)) j))
            ∙ (ap (λ (t : Thread). edited (has c t) (has c y) (k c) y.id (map (λ t. t.id) (filter (has c) ts))) at
            ∙ (list_written (λ (t : Thread). t.id) (has c) ts i x y l same ∙ sym (ids_mapped (filter (has c) (set ts i y))))));
        sized = omega (arith, d.sized, h.sized, counted_written (λ t. is_some (key t)) ts i x y l, ap (λ (t : Thread). bool_to_nat (is_some (key t))) at, ap (λ (o : Option ℕ). bool_to_nat (is_some o)) b, ap (λ (o : Option ℕ). bool_to_nat (is_some o)) a);
      }

  pub listing_gone : (id : ℕ) (before : Option ℕ) (ms : List Listed) → before ≡ key x → ms ≡ relisted ids i id before None ls → IsListing key (remove ts i) ms
  listing_gone id before ms b m =
      let d : IsEdited k id before None ls ms = subst (IsEdited k id before None ls) (sym m) (is_edited id before None b) in
      record {
        rises = d.rises;
        listed = λ c.
            d.ids c
            ∙ ((λ j. edited (is_number c (b j)) false (k c) id ((h.listed c ∙ ids_mapped (filter (has c) ts)) j))
            ∙ (ap (λ (t : Thread). edited (has c t) false (k c) id (map (λ t. t.id) (filter (has c) ts))) at
            ∙ (list_gone (λ (t : Thread). t.id) (has c) ts i x id l ∙ sym (ids_mapped (filter (has c) (remove ts i))))));
        sized = omega (arith, d.sized, h.sized, counted_gone (λ t. is_some (key t)) ts i x l, ap (λ (t : Thread). bool_to_nat (is_some (key t))) at, ap (λ (o : Option ℕ). bool_to_nat (is_some o)) b);
      }

-- a thread under the same tracer stays as it is listed
pub relisted_same : (ids : List ℕ) (i id : ℕ) (o : Option ℕ) (ls : List Listed) → ls ≡ relisted ids i id o o ls
relisted_same ids i id None ls = refl
relisted_same ids i id (Some a) ls = sym (ap (λ (b : Bool). if b then ls else insert (remove ls (rank ids a i ls)) (rank ids a i (remove ls (rank ids a i ls))) (record { tracer = a; id = id })) (eq-eqb a a refl))

-- a thread that comes last

pub listing_added : (key : Thread → Option ℕ) (ts : List Thread) (ls ms : List Listed) (t : Thread) → IsListing key ts ls → ms ≡ with_last (key t) t.id ls → IsListing key (ts ++ t ∷ []) ms
listing_added key ts ls ms t h m =
    let d : IsEdited (λ b. length (ids_under b ls)) t.id None (key t) ls ms = subst (IsEdited (λ b. length (ids_under b ls)) t.id None (key t) ls) (sym m) (last (key t)) in
    record {
      rises = d.rises;
      listed = λ b.
          d.ids b
          ∙ (comes b (is_number b (key t))
          ∙ (ap (λ (ns : List ℕ). if is_number b (key t) then ns ++ t.id ∷ [] else ns) (h.listed b ∙ ids_mapped (filter (λ u. is_number b (key u)) ts))
          ∙ (sym (list_added (λ (u : Thread). u.id) (λ u. is_number b (key u)) ts t) ∙ sym (ids_mapped (filter (λ u. is_number b (key u)) (ts ++ t ∷ []))))));
      sized = omega (arith, d.sized, h.sized, counted_added (λ u. is_some (key u)) ts t);
    }
  where
    last : (o : Option ℕ) → IsEdited (λ b. length (ids_under b ls)) t.id None o ls (with_last o t.id ls)
    last None = record { rises = h.rises; ids = λ c. refl; sized = refl }
    last (Some a) =
        subst (λ (n : ℕ). IsEdited (λ b. length (ids_under b ls)) t.id None (Some a) ls (insert ls n (record { tracer = a; id = t.id })))
        (ap (λ (ks : List Listed). length ks) (filter_agree (front (λ _. true) a) (λ l. leb l.tracer a) (not_after a) ls))
        (row_comes (λ _. true) (λ b. length (ids_under b ls)) a ls h.rises (all_parts (ids_under a ls)) t.id)

    comes : (b : ℕ) (v : Bool) → edited false v (length (ids_under b ls)) t.id (ids_under b ls) ≡ (if v then ids_under b ls ++ t.id ∷ [] else ids_under b ls)
    comes b true = insert_end (ids_under b ls) t.id
    comes b false = refl

pub few_listed : (key : Thread → Option ℕ) (ts : List Thread) (ls : List Listed) → IsListing key ts ls → length ls ≤ length ts
few_listed key ts ls h = omega (arith, h.sized, filter-le-length (λ t. is_some (key t)) ts)
