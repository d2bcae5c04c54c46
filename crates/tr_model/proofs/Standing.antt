-- What a kernel leans on: ids, numbers and reports of a table that a journal leads to.
use Rattle.std.proofs.Common.{◌≡◌, ℕ, ◌+◌, ◌<◌, ◌≤◌, List, [], ◌∷◌, ◌++◌, true, false, Some, None, Option, refl, ap, Bool, ◌==◌, ◌⊎◌, inl, inr, if◌then◌else◌, arith}
use Rattle.std.proofs.lemmas.Bool.{cases_lt, eq-eqb}
use Rattle.tr_tracee.specs.declared.thread.Report.{Report}
use Rattle.tr_tracee.specs.declared.thread.Thread.{Thread}
use Rattle.tr_tracee.specs.Threads
use Rattle.tr_model.specs.Entries.{Entry}
use Rattle.tr_model.specs.declared.rows.Group.{Group}
use Rattle.tr_model.specs.Journals
use Rattle.tr_model.specs.Journals.{Each, EachGroup, IsIn, occurs}
use Rattle.tr_model.specs.Laws
use Rattle.tr_model.specs.Tables.{Table}
use Rattle.tr_model.proofs.Among.{occurs-append}
use Rattle.tr_model.proofs.Between.{Sane, entry_sane, ids_total, replay_keeps, start_sane}
use Rattle.tr_model.proofs.Measures.{total}
use Rattle.tr_model.proofs.OneFate.{one_fate}
use Rattle.tr_model.proofs.Consumed.{replay_standing, start_standing, upto_one}
use Rattle.tr_model.proofs.Reports.{Owned, OwnedNote, RaisedFor, is_report, notes, one, reports}

-- Numbers

pub occurs-in : (n : ℕ) (xs : List ℕ) → IsIn n xs → 1 ≤ occurs n xs
occurs-in n [] h = absurd h
occurs-in n (x ∷ xs) (inl e) = go (x == n) (eq-eqb x n e)
  where
    go : (b : Bool) → b ≡ true → 1 ≤ (if b then 1 else 0) + occurs n xs
    go true e = omega arith
    go false e = cc
occurs-in n (x ∷ xs) (inr h) = omega (arith, occurs-in n xs h)

pub numbers_accepted : Laws.NumbersAreAccepted
numbers_accepted T U es rs s r n h = (elim (cases_lt n 1) [ inl l ↦ absurd (none (inl (omega arith))) | inr m ↦ m ], elim (cases_lt U.accepted n) [ inl l ↦ absurd (none (inr l)) | inr m ↦ m ])
  where
    now : Laws.OneFate T es U
    now = one_fate T U es rs s r

    none : (n ≡ 0) ⊎ (U.accepted < n) → ⊥
    none o = let e : occurs n (Journals.waiting_numbers U.waiting ++ Journals.held_numbers U.threads ++ Journals.numbers_of (Journals.ended_by T es)) ≡ 0 = now.others n o in
        omega (arith, e, occurs-append n (Journals.waiting_numbers U.waiting ++ Journals.held_numbers U.threads) (Journals.numbers_of (Journals.ended_by T es)), occurs-in n _ h)

-- Ids

pub ids_are_distinct : Laws.IdsAreDistinct
ids_are_distinct T U es rs s r n = let sane = replay_keeps Sane entry_sane T U es rs r (start_sane T s) in omega (arith, sane.once n, ids_total n U.threads)

-- Reports

module _ (T : Table) (es : List Entry) where
  open_one : (whom : Option ℕ) (o : Option Report) → RaisedFor (Journals.raised_by T es) o whom → ((n : ℕ) → 1 ≤ is_report n o → occurs n (Journals.consumed_by es) ≡ 0) → Laws.IsOpenReport T es whom o
  open_one whom None h f = tt
  open_one whom (Some x) h f = (h x refl, f x.number (omega (arith, ap one (eq-eqb x.number x.number refl))))

  threads_open : (ts : List Thread) → Each (Owned (Journals.raised_by T es)) ts → ((n : ℕ) → 1 ≤ total (reports n) ts → occurs n (Journals.consumed_by es) ≡ 0) → Each (λ t. Laws.IsOpenReport T es (Threads.tracer_of t.trace) t.report) ts
  threads_open [] h f = tt
  threads_open (t ∷ ts) h f = (open_one (Threads.tracer_of t.trace) t.report h.0 (λ n l. f n (omega (arith, l))), threads_open ts h.1 (λ n l. f n (omega (arith, l))))

  groups_open : (gs : List Group) → EachGroup (OwnedNote (Journals.raised_by T es)) gs → ((n : ℕ) → 1 ≤ notes n gs → occurs n (Journals.consumed_by es) ≡ 0) → EachGroup (λ g. Laws.IsOpenReport T es None g.note) gs
  groups_open [] h f = tt
  groups_open (g ∷ gs) h f = (open_one None g.note h.0 (λ n l. f n (omega (arith, l))), groups_open gs h.1 (λ n l. f n (omega (arith, l))))

pub reports_are_open : Laws.ReportsAreOpen
reports_are_open T U es rs s r =
    let now = replay_standing T U [] [] es rs (start_standing T s) r in (
      threads_open T es U.threads now.threads (λ n l. omega (arith, l, now.count n, (upto_one n U.raised).0)),
      groups_open T es U.groups now.groups (λ n l. omega (arith, l, now.count n, (upto_one n U.raised).0)),
    )
