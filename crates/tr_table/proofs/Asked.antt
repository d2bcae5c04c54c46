-- Whom a wait asks for, among the tracees of an actor.
use Rattle.std.proofs.Common.{Bor, ◌≡◌, ◌==◌, ◌&&◌, ◌||◌, ◌≤◌, ◌∙◌, ◌⊎◌, inl, inr, ℕ, List, [], ◌∷◌, Bool, true, false, Option, Some, None, cond, if◌then◌else◌, filter, find, is_some, length, arith, refl, ap, sym, eq-eqb}
use Rattle.std.specs.List.{list_any}
use Rattle.std.specs.Option.{option_copied}
use Rattle.std.proofs.lemmas.Bool.{and_parts, cases_eq, eqb-true, ne_eqb}
use Rattle.tr_tracee.specs.declared.thread.Thread.{Thread}
use Rattle.tr_tracee.specs.Threads.{is_tracee_of}
use Rattle.tr_model.specs.Journals.{occurs}
use Rattle.tr_model.specs.Tables.{ids_of, thread_in}
use Rattle.tr_threads.specs.Tracing.{if_passes}
use Rattle.tr_threads.proofs.Reports.{find_same, find_filter}

pub any_by_find : (p : Thread → Bool) (ts : List Thread) → list_any p ts ≡ is_some (find p ts)
any_by_find p [] = refl
any_by_find p (t ∷ ts) = go (p t) (any_by_find p ts)
  where
    go : (b : Bool) → list_any p ts ≡ is_some (find p ts) → (b || list_any p ts) ≡ is_some (if b then Some t else find p ts)
    go true h = refl
    go false h = h

none_found : (q : Thread → Bool) (ts : List Thread) → length (filter q ts) ≡ 0 → (p : Thread → Bool) → ((t : Thread) → p t ≡ true → q t ≡ true) → find p ts ≡ None
none_found q [] h p s = refl
none_found q (t ∷ ts) h p s = go (q t) (p t) h (s t) (λ k. none_found q ts k p s)
  where
    go : (b a : Bool) → length (cond b (t ∷ filter q ts) (filter q ts)) ≡ 0 → (a ≡ true → b ≡ true) → (length (filter q ts) ≡ 0 → find p ts ≡ None) → (if a then Some t else find p ts) ≡ None
    go true a k w r = absurd (omega (arith, k))
    go false true k w r = absurd (never (w refl))
      where
        never : false ≡ true → ⊥
        never e = cc
    go false false k w r = r k

others : (id : ℕ) (ts : List Thread) → occurs id (ids_of ts) ≤ 0 → length (filter (λ t. id == t.id) ts) ≡ 0
others id [] h = refl
others id (t ∷ ts) h = go (id == t.id) refl (others id ts)
  where
    go : (b : Bool) → (id == t.id) ≡ b → (occurs id (ids_of ts) ≤ 0 → length (filter (λ u. id == u.id) ts) ≡ 0) → length (cond b (t ∷ filter (λ u. id == u.id) ts) (filter (λ u. id == u.id) ts)) ≡ 0
    go true e r = absurd (omega (arith, h, ap {B = ℕ} (λ (b : Bool). if b then 1 else 0) (eq-eqb t.id id (sym (eqb-true id t.id e)))))
    go false e r = r (omega (arith, h))

pub found_by_id : (q : Thread → Bool) (id : ℕ) (ts : List Thread) → ((n : ℕ) → occurs n (ids_of ts) ≤ 1) → find (λ t. (id == t.id) && q t) ts ≡ if_passes q (thread_in ts id)
found_by_id q id [] once = refl
found_by_id q id (t ∷ ts) once = go (cases_eq t.id id) (found_by_id q id ts (λ n. omega (arith, once n)))
  where
    go : (t.id ≡ id) ⊎ (t.id ≡ id → ⊥) → find (λ u. (id == u.id) && q u) ts ≡ if_passes q (thread_in ts id)
        → (if (id == t.id) && q t then Some t else find (λ u. (id == u.id) && q u) ts) ≡ if_passes q (if t.id == id then Some t else thread_in ts id)
    go (inl e) r =
        let rest : find (λ u. (id == u.id) && q u) ts ≡ None = none_found (λ u. id == u.id) ts (others id ts (omega (arith, once id, ap {B = ℕ} (λ (b : Bool). if b then 1 else 0) (eq-eqb t.id id e)))) (λ u. (id == u.id) && q u) (λ u h. (and_parts (id == u.id) (q u) h).0) in
        ap (λ b. if b && q t then Some t else find (λ u. (id == u.id) && q u) ts) (eq-eqb id t.id (sym e)) ∙ (ap (λ o. if q t then Some t else o) rest ∙ ap (λ b. if_passes q (if b then Some t else thread_in ts id)) (sym (eq-eqb t.id id e)))
    go (inr e) r = ap (λ b. if b && q t then Some t else find (λ u. (id == u.id) && q u) ts) (ne_eqb id t.id (λ k. e (sym k))) ∙ (r ∙ ap (λ b. if_passes q (if b then Some t else thread_in ts id)) (sym (ne_eqb t.id id e)))

-- what a wait asks for

module _ (asks : ℕ → Bool) (a : ℕ) (ts : List Thread) where
  abbrev pub asked : List Thread
  asked = filter (λ t. asks t.id) (filter (is_tracee_of a) ts)

  module _ (id : ℕ) (only : (n : ℕ) → asks n ≡ (id == n)) (once : (n : ℕ) → occurs n (ids_of ts) ≤ 1) where
    pub one_asked : list_any (λ t. asks t.id) (filter (is_tracee_of a) ts) ≡ is_some (if_passes (is_tracee_of a) (thread_in ts id))
    one_asked =
        any_by_find (λ t. asks t.id) (filter (is_tracee_of a) ts)
        ∙ ap is_some (find_filter (λ t. asks t.id) (is_tracee_of a) ts ∙ (find_same (λ t. is_tracee_of a t && asks t.id) (λ t. (id == t.id) && is_tracee_of a t) (λ t. turned (is_tracee_of a t) (asks t.id) (id == t.id) (only t.id)) ts ∙ found_by_id (is_tracee_of a) id ts once))
      where
        turned : (b c d : Bool) → c ≡ d → (b && c) ≡ (d && b)
        turned true true true e = refl
        turned true false false e = refl
        turned false true true e = refl
        turned false false false e = refl
        turned b true false e = cc
        turned b false true e = cc

    pub one_found : (r : Thread → Bool) → find r asked ≡ if_passes r (if_passes (is_tracee_of a) (thread_in ts id))
    one_found r =
        find_filter r (λ t. asks t.id) (filter (is_tracee_of a) ts)
        ∙ (find_filter (λ t. asks t.id && r t) (is_tracee_of a) ts
        ∙ (find_same (λ t. is_tracee_of a t && (asks t.id && r t)) (λ t. (id == t.id) && (is_tracee_of a t && r t)) (λ t. turned (is_tracee_of a t) (asks t.id) (id == t.id) (r t) (only t.id)) ts
        ∙ (found_by_id (λ t. is_tracee_of a t && r t) id ts once ∙ twice (thread_in ts id))))
      where
        turned : (b c d e : Bool) → c ≡ d → (b && (c && e)) ≡ (d && (b && e))
        turned true true true e h = refl
        turned true false false e h = refl
        turned false true true e h = refl
        turned false false false e h = refl
        turned b true false e h = cc
        turned b false true e h = cc

        twice : (o : Option Thread) → if_passes (λ t. is_tracee_of a t && r t) o ≡ if_passes r (if_passes (is_tracee_of a) o)
        twice None = refl
        twice (Some t) = go (is_tracee_of a t)
          where
            go : (b : Bool) → (if b && r t then Some t else None) ≡ if_passes r (if b then Some t else None)
            go true = refl
            go false = refl

  module _ (all : (n : ℕ) → asks n ≡ true) where
    pub any_asked : list_any (λ t. asks t.id) (filter (is_tracee_of a) ts) ≡ list_any (is_tracee_of a) ts
    any_asked =
        any_by_find (λ t. asks t.id) (filter (is_tracee_of a) ts)
        ∙ (ap is_some (find_filter (λ t. asks t.id) (is_tracee_of a) ts ∙ find_same (λ t. is_tracee_of a t && asks t.id) (is_tracee_of a) (λ t. both (is_tracee_of a t) (asks t.id) (all t.id)) ts) ∙ sym (any_by_find (is_tracee_of a) ts))
      where
        both : (b c : Bool) → c ≡ true → (b && c) ≡ b
        both true c e = e
        both false c e = refl

    pub any_found : (r : Thread → Bool) → find r asked ≡ find (λ t. is_tracee_of a t && r t) ts
    any_found r =
        find_filter r (λ t. asks t.id) (filter (is_tracee_of a) ts)
        ∙ (find_filter (λ t. asks t.id && r t) (is_tracee_of a) ts
        ∙ find_same (λ t. is_tracee_of a t && (asks t.id && r t)) (λ t. is_tracee_of a t && r t) (λ t. ap (λ b. is_tracee_of a t && (b && r t)) (all t.id)) ts)

pub copied_some : (o : Option (Bor Thread)) → is_some (option_copied o) ≡ is_some o
copied_some None = refl
copied_some (Some t) = refl
