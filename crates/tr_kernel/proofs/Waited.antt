-- What waits consumed, by their positions.
use Rattle.std.proofs.Common.{◌≡◌, ◌≢◌, ℕ, zero, suc, ◌+◌, ◌-◌, ◌<◌, ◌≤◌, List, [], ◌∷◌, take, Option, Some, None, refl, sym, ap, ◌∙◌, subst, arith, ◌⊎◌, inl, inr, ◌↔◌, true≢false, Bool, true, false, ◌==◌, if◌then◌else◌}
use Rattle.std.proofs.lemmas.Bool.{eq-eqb}
use Rattle.std.proofs.lemmas.Option.{none-some}
use Rattle.std.specs.Prelude.{IfSome, IsSome, slice_get}
use Rattle.tr_model.specs.Choices.{Choice}
use Rattle.tr_model.specs.Entries.{Entry}
use Rattle.tr_model.specs.declared.events.Event.{Event}
use Rattle.tr_model.specs.declared.events.Event.TheVariants as event
use Rattle.tr_model.specs.Journals.{IsIn, consumed, consumed_by, consumed_of, occurs}
use Rattle.tr_model.specs.Steps.{Admits}
use Rattle.tr_model.specs.Tables.{Table}
use Rattle.tr_model.proofs.Among.{occurs-append}
use Rattle.tr_model.proofs.Consumed.{consumed_once, consumed_was_raised}
use Rattle.tr_starts.specs.Starts.{table_of}
use Rattle.tr_kernel.specs.Laws.{IsWait, RaisedBefore, WaitsAt, consumed_at, report_by, report_of}
use Rattle.tr_kernel.specs.Positions.{entry_at, table_at}
use Rattle.tr_kernel.specs.States.{IsHistory, State}
use Rattle.tr_kernel.proofs.Begun.{is_start}
use Rattle.tr_kernel.proofs.Cuts.{cut}

-- what stands at a position, as it is looked up
pub at_entry : (es : List Entry) (p : ℕ) (o : Option Entry) → (p ≡ 0 → o ≡ None) → (1 ≤ p → o ≡ slice_get es (p - 1)) → o ≡ entry_at es p
at_entry es zero o none at = none refl
at_entry es (suc k) o none at = at (omega arith) ∙ ap (slice_get es) (omega arith)

-- Waits have a report

waits_report : (T : Table) (a : ℕ) (e : Event) (c : Choice) → Admits T a e c → IsWait e → (r : ℕ) × (report_by e c ≡ Some r)
waits_report T a (event.Wait which) c h w = (h.0, ap (λ (x : Choice). x.report) h.1)
waits_report T a (event.StarterWait which flags) c h w = (h.0, ap (λ (x : Choice). x.report) h.1)
waits_report T a _ c h w = absurd w

report_waits : (e : Event) (c : Choice) (r : ℕ) → report_by e c ≡ Some r → IsWait e
report_waits (event.Wait which) c r q = tt
report_waits (event.StarterWait which flags) c r q = tt
report_waits _ c r q = absurd (none-some r q)

report_in : (e : Event) (c : Choice) (r : ℕ) → report_by e c ≡ Some r → consumed_of e c ≡ r ∷ []
report_in (event.Wait which) c r q = rw q refl
report_in (event.StarterWait which flags) c r q = rw q refl
report_in _ c r q = absurd (none-some r q)

-- Once

one : (r : ℕ) → occurs r (r ∷ []) ≡ 1
one r = go (r == r) (eq-eqb r r refl)
  where
    go : (b : Bool) → b ≡ true → (if b then 1 else 0) + 0 ≡ 1
    go true h = refl
    go false h = absurd cc

here : (es : List Entry) (e : Entry) (r : ℕ) → report_by e.event e.choice ≡ Some r → occurs r (consumed_by (e ∷ es)) ≡ 1 + occurs r (consumed_by es)
here es e r q = occurs-append r (consumed e) (consumed_by es) ∙ ap (λ n. n + occurs r (consumed_by es)) (ap (occurs r) (report_in e.event e.choice r q) ∙ one r)

later : (es : List Entry) (e : Entry) (r : ℕ) → occurs r (consumed_by es) ≤ occurs r (consumed_by (e ∷ es))
later es e r = omega (arith, occurs-append r (consumed e) (consumed_by es))

consumed_there : (es : List Entry) (k r : ℕ) → consumed_at es (suc k) ≡ Some r → 1 ≤ occurs r (consumed_by es)
consumed_there [] k r q = absurd (none-some r q)
consumed_there (e ∷ es) zero r q = omega (arith, here es e r q)
consumed_there (e ∷ es) (suc k) r q = omega (arith, consumed_there es k r q, later es e r)

consumed_twice : (es : List Entry) (i j r : ℕ) → i < j → consumed_at es (suc i) ≡ Some r → consumed_at es (suc j) ≡ Some r → 2 ≤ occurs r (consumed_by es)
consumed_twice [] i j r l p q = absurd (none-some r p)
consumed_twice (e ∷ es) i zero r l p q = absurd (omega arith)
consumed_twice (e ∷ es) zero (suc j) r l p q = omega (arith, here es e r p, consumed_there es j r q)
consumed_twice (e ∷ es) (suc i) (suc j) r l p q = omega (arith, consumed_twice es i j r (omega arith) p q, later es e r)

pub consumed_apart : (k : State) → IsHistory k → (p q r : ℕ) → p ≢ q → consumed_at k.journal p ≡ Some r → consumed_at k.journal q ≡ Some r → ⊥
consumed_apart k h zero q r d x y = none-some r x
consumed_apart k h (suc p) zero r d x y = none-some r y
consumed_apart k h (suc p) (suc q) r d x y = go (apart p q (λ e. d (ap suc e)))
  where
    once : occurs r (consumed_by k.journal) ≤ 1
    once = consumed_once (table_of k.start) k.table k.journal k.replies (is_start k.start h.good) h.replayed r

    apart : (m n : ℕ) → (m ≡ n → ⊥) → (m < n) ⊎ (n < m)
    apart m n d = search arith

    go : (p < q) ⊎ (q < p) → ⊥
    go (inl l) = let t = consumed_twice k.journal p q r l x y in omega (arith, once, t)
    go (inr l) = let t = consumed_twice k.journal q p r l y x in omega (arith, once, t)

-- Raised before

pub raised_before : (k : State) → IsHistory k → (p r : ℕ) → consumed_at k.journal p ≡ Some r → RaisedBefore (table_of k.start) k.journal p r
raised_before k h zero r q = absurd (none-some r q)
raised_before k h (suc n) r q = go (slice_get k.journal n) refl q
  where
    go : (o : Option Entry) → slice_get k.journal n ≡ o → report_of o ≡ Some r → RaisedBefore (table_of k.start) k.journal (suc n) r
    go None e w = absurd (none-some r w)
    go (Some x) e w =
        let c = cut n (table_of k.start) k.table k.journal k.replies x h.replayed e in
        let i : IsIn r (consumed x) = subst (IsIn r) (sym (report_in x.event x.choice r w)) (inl refl) in
        (x, e, consumed_was_raised (table_of k.start) (table_at (table_of k.start) k.journal n) (table_at (table_of k.start) k.journal (suc n)) (take n k.journal) (take n k.replies) x c.reply (is_start k.start h.good) c.earlier c.step r i)

-- Exactly at waits

pub waits_there : (es : List Entry) (p r : ℕ) → consumed_at es p ≡ Some r → WaitsAt es p
waits_there es p r q = go (entry_at es p) refl q
  where
    go : (o : Option Entry) → entry_at es p ≡ o → report_of o ≡ Some r → WaitsAt es p
    go None e w = absurd (none-some r w)
    go (Some x) e w = (x, e, report_waits x.event x.choice r w)

pub consumed_where : (k : State) → IsHistory k → (p : ℕ) → WaitsAt k.journal p → (r : ℕ) × (consumed_at k.journal p ≡ Some r)
consumed_where k h zero w = absurd (none-some w.0 w.1)
consumed_where k h (suc n) w =
    let c = cut n (table_of k.start) k.table k.journal k.replies w.0 h.replayed w.1 in
    let r = waits_report (table_at (table_of k.start) k.journal n) w.0.actor w.0.event w.0.choice c.step.choice w.2 in
    (r.0, ap report_of w.1 ∙ r.1)

-- In the words of the call

pub waits_exactly : (k : State) → IsHistory k → (p : ℕ) (o : Option ℕ) → o ≡ consumed_at k.journal p → IsSome o ↔ WaitsAt k.journal p
waits_exactly k h p None e = ((λ s. absurd (true≢false (sym s))), λ w. let r = consumed_where k h p w in absurd (none-some r.0 (e ∙ r.1)))
waits_exactly k h p (Some r) e = ((λ s. waits_there k.journal p r (sym e)), λ w. refl)

pub raised_where : (k : State) → IsHistory k → (p : ℕ) (o : Option ℕ) → o ≡ consumed_at k.journal p → IfSome o (λ r. RaisedBefore (table_of k.start) k.journal p r)
raised_where k h p None e = tt
raised_where k h p (Some r) e = raised_before k h p r (sym e)

pub once_where : (k : State) → IsHistory k → (p : ℕ) (o : Option ℕ) → o ≡ consumed_at k.journal p → IfSome o (λ r. (q : ℕ) → q ≢ p → consumed_at k.journal q ≢ Some r)
once_where k h p None e = tt
once_where k h p (Some r) e = λ q d x. consumed_apart k h q p r d x (sym e)
