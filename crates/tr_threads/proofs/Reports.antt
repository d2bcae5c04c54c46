-- The first thread that has a report for its tracer, as it is found by what is kept beside the threads.
use Rattle.std.proofs.Common.{◌≡◌, ◌==◌, ◌&&◌, ◌≤◌, ◌∙◌, ℕ, List, [], ◌∷◌, Bool, true, false, not, Option, Some, None, cond, if◌then◌else◌, filter, find, is_some, length, map, arith, refl, ap, sym}
use Rattle.std.specs.List.{list_any}
use Rattle.std.proofs.lemmas.Bool.{and_parts}
use Rattle.std.proofs.lemmas.List.{length-map}
use Rattle.std.proofs.lemmas.List.Elements.{filter_agree}
use Rattle.tr_tracee.specs.declared.thread.Report.{Report}
use Rattle.tr_tracee.specs.declared.thread.Thread.{Thread}
use Rattle.tr_tracee.specs.declared.thread.Trace.{Trace}
use Rattle.tr_tracee.specs.Threads.{is_tracee_of, traces, tracer_of}
use Rattle.tr_model.specs.Journals.{occurs}
use Rattle.tr_model.specs.Tables.{ids_of, thread_in}
use Rattle.tr_index.specs.Multisets.{is_number}
use Rattle.tr_threads.specs.declared.tracee_list.Listed.{Listed}
use Rattle.tr_threads.specs.TraceeLists.{IsListing, ids_under, is_under}
use Rattle.tr_threads.specs.Tracing.{first_of, passes, reports, tracer, waiter}
use Rattle.tr_threads.specs.Waits.{is_report}
use Rattle.tr_threads.proofs.ByIds.{found}
use Rattle.tr_threads.proofs.Counting.{any_counted}
use Rattle.tr_threads.proofs.ThreadLists.{ids_length}

-- a filter before a search

pub find_filter : (r q : Thread → Bool) (ts : List Thread) → find r (filter q ts) ≡ find (λ t. q t && r t) ts
find_filter r q [] = refl
find_filter r q (t ∷ ts) = go (q t) (find_filter r q ts)
  where
    go : (b : Bool) → find r (filter q ts) ≡ find (λ u. q u && r u) ts → find r (cond b (t ∷ filter q ts) (filter q ts)) ≡ (if b && r t then Some t else find (λ u. q u && r u) ts)
    go true h = ap (λ o. if r t then Some t else o) h
    go false h = h

pub find_same : (p q : Thread → Bool) → ((t : Thread) → p t ≡ q t) → (ts : List Thread) → find p ts ≡ find q ts
find_same p q s ts = λ j. find (λ t. s t j) ts

-- by the ids of those that have a report

abbrev first_some : (Thread → Bool) → List (Option Thread) → Option Thread
first_some p [] = None
first_some p (o ∷ os) = if passes p o then o else first_some p os

by_records : (p : Thread → Bool) (ts : List Thread) (ns : List ℕ) → first_of p ts ns ≡ first_some p (map (thread_in ts) ns)
by_records p ts [] = refl
by_records p ts (n ∷ ns) = ap (λ o. if passes p (thread_in ts n) then thread_in ts n else o) (by_records p ts ns)

all_there : (p : Thread → Bool) (ts : List Thread) → first_some p (map Some ts) ≡ find p ts
all_there p [] = refl
all_there p (t ∷ ts) = ap (λ o. if p t then Some t else o) (all_there p ts)

listed : (p k : Thread → Bool) (ts : List Thread) → ((t : Thread) → p t ≡ true → k t ≡ true) → ((n : ℕ) → occurs n (ids_of ts) ≤ 1) → first_of p ts (ids_of (filter k ts)) ≡ find p ts
listed p k ts s once =
    by_records p ts (ids_of (filter k ts))
    ∙ (ap (first_some p) (found k ts once) ∙ (all_there p (filter k ts) ∙ (find_filter p k ts ∙ find_same (λ t. k t && p t) p (λ t. both (k t) (p t) (s t)) ts)))
  where
    both : (b c : Bool) → (c ≡ true → b ≡ true) → (b && c) ≡ c
    both true c h = refl
    both false false h = refl
    both false true h = h refl

-- who reports has a tracer

is_tracer : (a : ℕ) (o : Option Trace) → is_number a (tracer_of o) ≡ traces a o
is_tracer a None = refl
is_tracer a (Some r) = refl

no_report : (number : Option ℕ) → is_report number None ≡ false
no_report None = refl
no_report (Some n) = refl

tells : (a : ℕ) (number : Option ℕ) (o : Option Trace) (r : Option Report) → (traces a o && is_report number r) ≡ true → is_number a (if is_some r then tracer_of o else None) ≡ true
tells a number o (Some x) e = is_tracer a o ∙ (and_parts (traces a o) (is_report number (Some x)) e).0
tells a number o None e = absurd (never (traces a o) (ap (λ b. traces a o && b) (sym (no_report number)) ∙ e))
  where
    never : (b : Bool) → (b && false) ≡ true → ⊥
    never true h = cc
    never false h = cc

-- by the rows under their tracer

pub tracees_listed : (a : ℕ) (ts : List Thread) (ls : List Listed) → IsListing tracer ts ls → ids_under a ls ≡ ids_of (filter (is_tracee_of a) ts)
tracees_listed a ts ls h = h.listed a ∙ ap ids_of (filter_agree (λ t. is_number a (tracer t)) (is_tracee_of a) (λ t. is_tracer a t.trace) ts)

pub any_tracee : (a : ℕ) (ts : List Thread) (ls : List Listed) → IsListing tracer ts ls → list_any (is_under a) ls ≡ list_any (is_tracee_of a) ts
any_tracee a ts ls h =
    let many : length (filter (is_under a) ls) ≡ length (filter (is_tracee_of a) ts) = omega (arith, length-map (filter (is_under a) ls) (λ (l : Listed). l.id), ap (λ (ns : List ℕ). length ns) (tracees_listed a ts ls h), ids_length (filter (is_tracee_of a) ts)) in
    any_counted (is_under a) ls ∙ (ap (λ (n : ℕ). not (n == 0)) many ∙ sym (any_counted (is_tracee_of a) ts))

pub first_listed : (a : ℕ) (number : Option ℕ) (ts : List Thread) (ls : List Listed) → IsListing waiter ts ls → ((n : ℕ) → occurs n (ids_of ts) ≤ 1) → first_of (reports a number) ts (ids_under a ls) ≡ find (reports a number) ts
first_listed a number ts ls h once = ap (first_of (reports a number) ts) (h.listed a) ∙ listed (reports a number) (λ t. is_number a (waiter t)) ts (λ t e. tells a number t.trace t.report e) once
