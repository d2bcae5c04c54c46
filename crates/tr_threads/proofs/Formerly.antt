-- A list of threads as it was before the record at a place became another one with its id.
use Rattle.std.proofs.Common.{◌≡◌, ◌<◌, ◌∙◌, ℕ, List, ap, length, get_or, set, sym}
use Rattle.std.proofs.lemmas.List.{get_or-set_same, length-set, set-get_or, set-set}
use Rattle.tr_tracee.specs.declared.thread.Thread.{Thread}
use Rattle.tr_model.specs.Tables.{ids_of}
use Rattle.tr_threads.proofs.ThreadLists.{ids_written}

module _ (ts : List Thread) (i : ℕ) (t u : Thread) (within : i < length ts) (now : u ≡ get_or ts i u) (same : (d : Thread) → t.id ≡ (get_or ts i d).id) where
  pub was_within : i < length (set ts i t)
  was_within = rw (length-set ts i t) within

  pub was_there : t ≡ get_or (set ts i t) i t
  was_there = sym (get_or-set_same ts i t t within)

  pub was_indexed : (ids : List ℕ) → ids ≡ ids_of ts → ids ≡ ids_of (set ts i t)
  was_indexed ids e = e ∙ sym (ids_written ts i t t (same t) within)

  pub has_same_id : u.id ≡ (get_or (set ts i t) i t).id
  has_same_id = ap (λ (x : Thread). x.id) now ∙ (sym (same u) ∙ ap (λ (x : Thread). x.id) was_there)

  pub is_now : set (set ts i t) i u ≡ ts
  is_now = set-set ts i t u ∙ (ap (λ (x : Thread). set ts i x) now ∙ set-get_or ts i u)

-- the record that stood there, put back
pub put_back : (ts us : List Thread) (i : ℕ) (t u : Thread) → us ≡ set ts i u → t ≡ get_or ts i t → set us i t ≡ ts
put_back ts us i t u e at = ap (λ (vs : List Thread). set vs i t) e ∙ (set-set ts i u t ∙ (ap (λ (x : Thread). set ts i x) at ∙ set-get_or ts i t))
