-- What is kept for waits, by the list as it is after a thread of it became another one that stands as it did.
use Rattle.std.proofs.Common.{◌≡◌, ◌<◌, ◌≤◌, ◌∙◌, ◌&&◌, ℕ, List, Bool, true, false, not, Option, None, Some, if◌then◌else◌, is_some, length, set, get_or, ap, refl, subst, sym, vec_capacity}
use Rattle.std.proofs.Math.Bool.{and-false}
use Rattle.tr_tracee.specs.declared.thread.Thread.{Thread}
use Rattle.tr_tracee.specs.declared.thread.Trace.{Trace}
use Rattle.tr_tracee.specs.Lives.{is_dead}
use Rattle.tr_tracee.specs.Threads.{is_leader, tracer_of}
use Rattle.tr_model.specs.Journals.{occurs}
use Rattle.tr_model.specs.Tables.{ids_of}
use Rattle.tr_threads.specs.declared.tracing.Tracing.{Tracing}
use Rattle.tr_threads.specs.Alike.{StandAlike}
use Rattle.tr_threads.specs.TraceeLists.{MayRelist, relisted}
use Rattle.tr_threads.specs.Tracing.{CountsDeath, HasPlaces, IsTracing, IsUnkept, RecountsDeath, tracer, waiter}
use Rattle.tr_threads.specs.Waits.{is_stray_death, is_untraced_death}
use Rattle.tr_threads.proofs.Alike.{death_alike, stray_alike, traced_by_same, waited_by_same}
use Rattle.tr_threads.proofs.Formerly.{has_same_id, is_now, was_indexed, was_there, was_within}
use Rattle.tr_threads.proofs.Listings.{relisted_same}
use Rattle.tr_threads.proofs.Tracings.{counts_death, may_report, may_trace, places_written, traced_alike, traced_still, traced_written}

-- the waiter of a thread that has this tracer, by whether it has a report
pub waits_if : (t : Thread) (a : ℕ) (b : Bool) (o : Option ℕ) → o ≡ (if b then Some a else None) → b ≡ is_some t.report → tracer t ≡ Some a → o ≡ waiter t
waits_if t a b o e r s = e ∙ λ i. if r i then sym s i else None

-- and of one that nobody traces
pub waits_not : (t : Thread) → tracer t ≡ None → None ≡ waiter t
waits_not t s = none (is_some t.report) ∙ λ i. if is_some t.report then sym s i else None
  where
    none : (b : Bool) → ◌≡◌ {A = Option ℕ} None (if b then None else None)
    none true = refl
    none false = refl

-- the death of a thread that has a tracer isn't the starter's to be told
pub told_by_tracer : (t : Thread) (a : ℕ) → tracer t ≡ Some a → is_untraced_death t ≡ false
told_by_tracer t a s = go t.trace s
  where
    go : (o : Option Trace) → tracer_of o ≡ Some a → (is_dead t.life && (not (is_some o) && is_some t.report)) ≡ false
    go None e = cc
    go (Some r) e = and-false (is_dead t.life)

pub not_stray : (t : Thread) (a : ℕ) → tracer t ≡ Some a → is_stray_death t ≡ false
not_stray t a s = ap (λ (b : Bool). b && not (is_leader t)) (told_by_tracer t a s)

module _ (us : List Thread) (x y : Thread) (i : ℕ) (ids : List ℕ) (v : Tracing) (kept : IsTracing (set us i x) v) (places : HasPlaces (length us) v) (indexed : ids ≡ ids_of us) (once : (n : ℕ) → occurs n ids ≤ 1) (within : i < length us) (now : y ≡ get_or us i y) (same : (d : Thread) → x.id ≡ (get_or us i d).id) where
  abbrev was : List Thread
  was = set us i x

  inside : i < length was
  inside = was_within us i x y within now same

  stood : x ≡ get_or was i x
  stood = was_there us i x y within now same

  listed : ids ≡ ids_of was
  listed = was_indexed us i x y within now same ids indexed

  room : HasPlaces (length was) v
  room = places_written us i x v places

  one : y.id ≡ (get_or was i x).id
  one = has_same_id us i x y within now same

  is : (w : Tracing) → IsTracing (set was i y) w → IsTracing us w
  is w h = subst (λ (zs : List Thread). IsTracing zs w) (is_now us i x y within now same) h

  pub traces_now : (o p : Option ℕ) → o ≡ tracer x → p ≡ tracer y → MayRelist ids i o p v.tracees.rows.items (vec_capacity v.tracees.rows)
  traces_now o p b a = may_trace was ids v kept room listed once i x inside stood y o p b a

  pub reports_now : (o p : Option ℕ) → o ≡ waiter x → p ≡ waiter y → MayRelist ids i o p v.reporting.rows.items (vec_capacity v.reporting.rows)
  reports_now o p b a = may_report was ids v kept room listed once i x inside stood y o p b a

  pub counted : CountsDeath x v
  counted = counts_death was ids v kept room listed once i x inside stood

  -- what is listed and counted anew
  pub told : (w : Tracing) (a b c d : Option ℕ) → a ≡ tracer x → b ≡ tracer y → c ≡ waiter x → d ≡ waiter y → w.tracees.rows.items ≡ relisted ids i y.id a b v.tracees.rows.items
      → w.reporting.rows.items ≡ relisted ids i y.id c d v.reporting.rows.items → RecountsDeath x y v w → IsTracing us w
  told w a b c d p q r s m n k = is w (traced_written was ids v kept room listed once i x inside stood y w a b c d one p q r s m n k)

  -- where nothing is kept, before and after
  pub still_unkept : IsUnkept x → IsUnkept y → IsTracing us v
  still_unkept before after = is v (traced_still was ids v kept room listed once i x inside stood y one before after)

  -- where it has a report as before, nothing is other
  pub reports_alike : StandAlike x y → is_some x.report ≡ is_some y.report → IsTracing us v
  reports_alike a r = is v (traced_alike was ids v kept room listed once i x inside stood y one (traced_by_same x y a) (waited_by_same x y a r) (death_alike x y a r) (stray_alike x y a r))

  -- its report and its death are told
  pub reports_told : (w : Tracing) (o p : Option ℕ) → StandAlike x y → o ≡ waiter x → p ≡ waiter y → w.tracees.rows.items ≡ v.tracees.rows.items
      → w.reporting.rows.items ≡ relisted ids i y.id o p v.reporting.rows.items → RecountsDeath x y v w → IsTracing us w
  reports_told w o p a b c m n k = told w (tracer x) (tracer x) o p refl (traced_by_same x y a) b c (m ∙ relisted_same ids i y.id (tracer x) v.tracees.rows.items) n k
