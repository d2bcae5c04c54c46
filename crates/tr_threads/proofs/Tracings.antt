-- What is kept for waits, as one: a thread of the list, what it becomes, and one that goes or comes.
use Rattle.std.proofs.Common.{◌≡◌, ◌+◌, ◌<◌, ◌≤◌, ◌++◌, ◌∷◌, [], ◌∙◌, ℕ, List, Bool, Option, None, length, set, get_or, remove, arith, ap, refl, sym, vec_capacity}
use Rattle.std.proofs.lemmas.List.{length-set}
use Rattle.std.proofs.lemmas.List.Edits.{length-remove}
use Rattle.tr_tracee.specs.declared.thread.Thread.{Thread}
use Rattle.tr_model.specs.Journals.{occurs}
use Rattle.tr_model.specs.Tables.{ids_of}
use Rattle.tr_model.proofs.Costs.{filter-le-length}
use Rattle.tr_index.specs.Counts.{bool_to_nat}
use Rattle.tr_threads.specs.declared.tracing.Tracing.{Tracing}
use Rattle.tr_threads.specs.TraceeLists.{MayRelist, relisted, with_last}
use Rattle.tr_threads.specs.Tracing.{CountsDeath, HasPlace, HasPlaces, IsTracing, IsUnkept, RecountsDeath, tracer, waiter}
use Rattle.tr_threads.specs.Waits.{is_stray_death, is_untraced_death}
use Rattle.tr_threads.proofs.Counting.{counted_added, counted_gone, counted_written, one_counted}
use Rattle.tr_threads.proofs.Listings.{few_listed, listing_added, listing_gone, listing_written, may_relist, relisted_same, room_gone, room_written}

module _ (ts : List Thread) (ids : List ℕ) (v : Tracing) (h : IsTracing ts v) (room : HasPlaces (length ts) v) (e : ids ≡ ids_of ts) (once : (n : ℕ) → occurs n ids ≤ 1) (i : ℕ) (x : Thread) (l : i < length ts) (at : x ≡ get_or ts i x) where
  pub may_trace : (y : Thread) (before after : Option ℕ) → before ≡ tracer x → after ≡ tracer y → MayRelist ids i before after v.tracees.rows.items (vec_capacity v.tracees.rows)
  may_trace y before after b a =
      may_relist tracer ts ids v.tracees.rows.items h.tracees e once i x l at before after (vec_capacity v.tracees.rows) b
      (rw (b, a) (room_written tracer ts ids v.tracees.rows.items h.tracees e once i x l at y (vec_capacity v.tracees.rows) room.tracees))

  pub may_report : (y : Thread) (before after : Option ℕ) → before ≡ waiter x → after ≡ waiter y → MayRelist ids i before after v.reporting.rows.items (vec_capacity v.reporting.rows)
  may_report y before after b a =
      may_relist waiter ts ids v.reporting.rows.items h.reporting e once i x l at before after (vec_capacity v.reporting.rows) b
      (rw (b, a) (room_written waiter ts ids v.reporting.rows.items h.reporting e once i x l at y (vec_capacity v.reporting.rows) room.reporting))

  pub may_untrace : (before : Option ℕ) → before ≡ tracer x → MayRelist ids i before None v.tracees.rows.items (vec_capacity v.tracees.rows)
  may_untrace before b =
      may_relist tracer ts ids v.tracees.rows.items h.tracees e once i x l at before None (vec_capacity v.tracees.rows) b
      (rw b (room_gone tracer ts ids v.tracees.rows.items h.tracees e once i x l at (vec_capacity v.tracees.rows) room.tracees))

  pub may_withdraw : (before : Option ℕ) → before ≡ waiter x → MayRelist ids i before None v.reporting.rows.items (vec_capacity v.reporting.rows)
  may_withdraw before b =
      may_relist waiter ts ids v.reporting.rows.items h.reporting e once i x l at before None (vec_capacity v.reporting.rows) b
      (rw b (room_gone waiter ts ids v.reporting.rows.items h.reporting e once i x l at (vec_capacity v.reporting.rows) room.reporting))

  -- its death may be counted, and so may another
  pub counts_death : CountsDeath x v
  counts_death = record {
    untraced = omega (arith, h.untraced_deaths, one_counted is_untraced_death ts i x l, ap (λ (t : Thread). bool_to_nat (is_untraced_death t)) at);
    stray = omega (arith, h.stray_deaths, one_counted is_stray_death ts i x l, ap (λ (t : Thread). bool_to_nat (is_stray_death t)) at);
    untraced_few = omega (arith, h.untraced_deaths, filter-le-length is_untraced_death ts, room.tracees);
    stray_few = omega (arith, h.stray_deaths, filter-le-length is_stray_death ts, room.tracees);
  }

  pub traced_written : (y : Thread) (w : Tracing) (a b c d : Option ℕ) → y.id ≡ (get_or ts i x).id → a ≡ tracer x → b ≡ tracer y → c ≡ waiter x → d ≡ waiter y
      → w.tracees.rows.items ≡ relisted ids i y.id a b v.tracees.rows.items → w.reporting.rows.items ≡ relisted ids i y.id c d v.reporting.rows.items → RecountsDeath x y v w → IsTracing (set ts i y) w
  traced_written y w a b c d same p q r s m n k = record {
    tracees = listing_written tracer ts ids v.tracees.rows.items h.tracees e once i x l at y a b w.tracees.rows.items same p q m;
    reporting = listing_written waiter ts ids v.reporting.rows.items h.reporting e once i x l at y c d w.reporting.rows.items same r s n;
    untraced_deaths = omega (arith, k.untraced, h.untraced_deaths, counted_written is_untraced_death ts i x y l, ap (λ (t : Thread). bool_to_nat (is_untraced_death t)) at);
    stray_deaths = omega (arith, k.stray, h.stray_deaths, counted_written is_stray_death ts i x y l, ap (λ (t : Thread). bool_to_nat (is_stray_death t)) at);
  }

  -- one with the tracer and the waiter of before, and whose death is to be told as before, leaves it as it is
  pub traced_alike : (y : Thread) → y.id ≡ (get_or ts i x).id → tracer x ≡ tracer y → waiter x ≡ waiter y → is_untraced_death x ≡ is_untraced_death y → is_stray_death x ≡ is_stray_death y → IsTracing (set ts i y) v
  traced_alike y same a b d s =
      traced_written y v (tracer x) (tracer x) (waiter x) (waiter x) same refl a refl b (relisted_same ids i y.id (tracer x) v.tracees.rows.items) (relisted_same ids i y.id (waiter x) v.reporting.rows.items)
      (record { untraced = ap (λ (c : Bool). v.untraced_deaths + bool_to_nat c) d; stray = ap (λ (c : Bool). v.stray_deaths + bool_to_nat c) s })

  -- and one of which nothing is kept, before and after
  pub traced_still : (y : Thread) → y.id ≡ (get_or ts i x).id → IsUnkept x → IsUnkept y → IsTracing (set ts i y) v
  traced_still y same before after = traced_alike y same (before.tracer ∙ sym after.tracer) (before.waiter ∙ sym after.waiter) (before.untraced_death ∙ sym after.untraced_death) (before.stray_death ∙ sym after.stray_death)

  pub traced_gone : (id : ℕ) (w : Tracing) (a c : Option ℕ) → a ≡ tracer x → c ≡ waiter x → w.tracees.rows.items ≡ relisted ids i id a None v.tracees.rows.items → w.reporting.rows.items ≡ relisted ids i id c None v.reporting.rows.items
      → w.untraced_deaths + bool_to_nat (is_untraced_death x) ≡ v.untraced_deaths → w.stray_deaths + bool_to_nat (is_stray_death x) ≡ v.stray_deaths → IsTracing (remove ts i) w
  traced_gone id w a c p r m n u s = record {
    tracees = listing_gone tracer ts ids v.tracees.rows.items h.tracees e once i x l at id a w.tracees.rows.items p m;
    reporting = listing_gone waiter ts ids v.reporting.rows.items h.reporting e once i x l at id c w.reporting.rows.items r n;
    untraced_deaths = omega (arith, u, h.untraced_deaths, counted_gone is_untraced_death ts i x l, ap (λ (t : Thread). bool_to_nat (is_untraced_death t)) at);
    stray_deaths = omega (arith, s, h.stray_deaths, counted_gone is_stray_death ts i x l, ap (λ (t : Thread). bool_to_nat (is_stray_death t)) at);
  }

pub traced_added : (ts : List Thread) (v w : Tracing) (t : Thread) → IsTracing ts v → w.tracees.rows.items ≡ with_last (tracer t) t.id v.tracees.rows.items → w.reporting.rows.items ≡ with_last (waiter t) t.id v.reporting.rows.items
    → w.untraced_deaths ≡ v.untraced_deaths + bool_to_nat (is_untraced_death t) → w.stray_deaths ≡ v.stray_deaths + bool_to_nat (is_stray_death t) → IsTracing (ts ++ t ∷ []) w
traced_added ts v w t h m n u s = record {
  tracees = listing_added tracer ts v.tracees.rows.items w.tracees.rows.items t h.tracees m;
  reporting = listing_added waiter ts v.reporting.rows.items w.reporting.rows.items t h.reporting n;
  untraced_deaths = omega (arith, u, h.untraced_deaths, counted_added is_untraced_death ts t);
  stray_deaths = omega (arith, s, h.stray_deaths, counted_added is_stray_death ts t);
}

pub has_place : (ts : List Thread) (v : Tracing) (n : ℕ) → IsTracing ts v → HasPlaces n v → length ts + 1 ≤ n → HasPlace v
has_place ts v n h room l = record {
  tracees_rise = h.tracees.rises;
  reporting_rise = h.reporting.rises;
  tracees = omega (arith, room.tracees, l, few_listed tracer ts v.tracees.rows.items h.tracees);
  reporting = omega (arith, room.reporting, l, few_listed waiter ts v.reporting.rows.items h.reporting);
  untraced_deaths = omega (arith, room.tracees, l, h.untraced_deaths, filter-le-length is_untraced_death ts);
  stray_deaths = omega (arith, room.tracees, l, h.stray_deaths, filter-le-length is_stray_death ts);
}

pub fewer_places : (m n : ℕ) (v : Tracing) → m ≤ n → HasPlaces n v → HasPlaces m v
fewer_places m n v l h = record { tracees = omega (arith, l, h.tracees); reporting = omega (arith, l, h.reporting) }

pub places_written : (ts : List Thread) (i : ℕ) (y : Thread) (v : Tracing) → HasPlaces (length ts) v → HasPlaces (length (set ts i y)) v
places_written ts i y v h = rw (length-set ts i y) h

pub places_gone : (ts : List Thread) (i : ℕ) (v : Tracing) → i < length ts → HasPlaces (length ts) v → HasPlaces (length (remove ts i)) v
places_gone ts i v l h = fewer_places (length (remove ts i)) (length ts) v (omega (arith, length-remove ts i l)) h
