-- The tracees that a tracer leaves.
use Rattle.std.proofs.Common.{◌≡◌, ◌≤◌, ◌∙◌, ℕ, ◌&&◌, List, [], ◌∷◌, Bool, true, false, not, Option, None, Some, if◌then◌else◌, drop, filter, get_or, map, refl, sym, ap}
use Rattle.tr_tracee.specs.declared.thread.Thread.{Thread}
use Rattle.tr_tracee.specs.Lives.{is_dead}
use Rattle.tr_tracee.specs.Threads.{is_tracee_of, options_of}
use Rattle.tr_model.specs.Journals.{occurs}
use Rattle.tr_model.specs.Tables.{ids_of, thread_in}
use Rattle.tr_threads.specs.Tracing.{passes}
use Rattle.tr_threads.proofs.ByIds.{found}
use Rattle.tr_requests.specs.Private.{is_to_kill}

pub killed_of_tracees : (a : ℕ) (ts : List Thread) → filter (is_to_kill a) ts ≡ filter (λ t. (options_of t.trace).exitkill && not (is_dead t.life)) (filter (is_tracee_of a) ts)
killed_of_tracees a [] = refl
killed_of_tracees a (t ∷ ts) = go (is_tracee_of a t) (killed_of_tracees a ts)
  where
    go : (b : Bool) → filter (is_to_kill a) ts ≡ filter (λ t. (options_of t.trace).exitkill && not (is_dead t.life)) (filter (is_tracee_of a) ts)
        → (if b && ((options_of t.trace).exitkill && not (is_dead t.life)) then t ∷ filter (is_to_kill a) ts else filter (is_to_kill a) ts)
        ≡ filter (λ t. (options_of t.trace).exitkill && not (is_dead t.life)) (if b then t ∷ filter (is_tracee_of a) ts else filter (is_tracee_of a) ts)
    go true h = ap (λ us. if (options_of t.trace).exitkill && not (is_dead t.life) then t ∷ us else us) h
    go false h = h

-- which of them are to be killed, by their ids

by_ids : (q : Thread → Bool) (ts us : List Thread) → map (thread_in ts) (ids_of us) ≡ map Some us → filter (λ n. passes q (thread_in ts n)) (ids_of us) ≡ ids_of (filter q us)
by_ids q ts [] h = refl
by_ids q ts (u ∷ us) h =
    ap (λ (o : Option Thread). if passes q o then u.id ∷ filter (λ n. passes q (thread_in ts n)) (ids_of us) else filter (λ n. passes q (thread_in ts n)) (ids_of us)) (ap (λ (os : List (Option Thread)). get_or os 0 None) h)
    ∙ go (q u) (by_ids q ts us (ap (drop 1) h))
  where
    go : (b : Bool) → filter (λ n. passes q (thread_in ts n)) (ids_of us) ≡ ids_of (filter q us)
        → (if b then u.id ∷ filter (λ n. passes q (thread_in ts n)) (ids_of us) else filter (λ n. passes q (thread_in ts n)) (ids_of us)) ≡ ids_of (if b then u ∷ filter q us else filter q us)
    go true r = ap (λ (ns : List ℕ). u.id ∷ ns) r
    go false r = r

among_tracees : (a : ℕ) (ts : List Thread) → filter (is_to_kill a) (filter (is_tracee_of a) ts) ≡ filter (is_to_kill a) ts
among_tracees a [] = refl
among_tracees a (t ∷ ts) = go (is_tracee_of a t) refl (among_tracees a ts)
  where
    go : (b : Bool) → is_tracee_of a t ≡ b → filter (is_to_kill a) (filter (is_tracee_of a) ts) ≡ filter (is_to_kill a) ts
        → filter (is_to_kill a) (if b then t ∷ filter (is_tracee_of a) ts else filter (is_tracee_of a) ts) ≡ (if is_to_kill a t then t ∷ filter (is_to_kill a) ts else filter (is_to_kill a) ts)
    go true e h = ap (λ us. if is_to_kill a t then t ∷ us else us) h
    go false e h = h ∙ sym (ap (λ b. if b && ((options_of t.trace).exitkill && not (is_dead t.life)) then t ∷ filter (is_to_kill a) ts else filter (is_to_kill a) ts) e)

pub killed_by_ids : (a : ℕ) (ts : List Thread) → ((n : ℕ) → occurs n (ids_of ts) ≤ 1) → filter (λ n. passes (is_to_kill a) (thread_in ts n)) (ids_of (filter (is_tracee_of a) ts)) ≡ ids_of (filter (is_to_kill a) ts)
killed_by_ids a ts once = by_ids (is_to_kill a) ts (filter (is_tracee_of a) ts) (found (is_tracee_of a) ts once) ∙ ap ids_of (among_tracees a ts)
