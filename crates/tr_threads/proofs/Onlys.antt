-- Where ids are distinct, a change of all threads with an id is one of the first.
use Rattle.std.proofs.Common.{◌≡◌, ◌==◌, ◌≤◌, ◌+◌, ℕ, Bool, true, false, List, [], ◌∷◌, if◌then◌else◌, map, arith, ap, refl}
use Rattle.tr_tracee.specs.declared.thread.Thread.{Thread}
use Rattle.tr_tracee.specs.Threads.{at_thread}
use Rattle.tr_model.specs.Journals.{occurs}
use Rattle.tr_model.specs.Moves.{changed}
use Rattle.tr_model.specs.Tables.{ids_of}

nowhere : (id : ℕ) (f : Thread → Thread) (ts : List Thread) → occurs id (ids_of ts) ≤ 0 → map (at_thread id f) ts ≡ ts
nowhere id f [] h = refl
nowhere id f (t ∷ ts) h = go (t.id == id) refl (nowhere id f ts)
  where
    go : (b : Bool) → (t.id == id) ≡ b → (occurs id (ids_of ts) ≤ 0 → map (at_thread id f) ts ≡ ts) → (if b then f t else t) ∷ map (at_thread id f) ts ≡ t ∷ ts
    go true e k = let x : (if true then 1 else 0) + occurs id (ids_of ts) ≤ 0 = (rw e at h) in absurd (omega (arith, x))
    go false e k = let x : (if false then 1 else 0) + occurs id (ids_of ts) ≤ 0 = (rw e at h) in ap (λ us. t ∷ us) (k (omega (arith, x)))

pub only_changed : (id : ℕ) (f : Thread → Thread) (ts : List Thread) → occurs id (ids_of ts) ≤ 1 → map (at_thread id f) ts ≡ changed id f ts
only_changed id f [] h = refl
only_changed id f (t ∷ ts) h = go (t.id == id) refl (only_changed id f ts)
  where
    go : (b : Bool) → (t.id == id) ≡ b → (occurs id (ids_of ts) ≤ 1 → map (at_thread id f) ts ≡ changed id f ts) → (if b then f t else t) ∷ map (at_thread id f) ts ≡ (if b then f t ∷ ts else t ∷ changed id f ts)
    go true e k = let x : (if true then 1 else 0) + occurs id (ids_of ts) ≤ 1 = (rw e at h) in ap (λ us. f t ∷ us) (nowhere id f ts (omega (arith, x)))
    go false e k = let x : (if false then 1 else 0) + occurs id (ids_of ts) ≤ 1 = (rw e at h) in ap (λ us. t ∷ us) (k (omega (arith, x)))
