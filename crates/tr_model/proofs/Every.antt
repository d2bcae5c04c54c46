-- What holds of each thread, and what the moves on lists make of it.
use Rattle.std.proofs.Common.{◌≡◌, ℕ, List, [], ◌∷◌, ◌++◌, true, false, Some, sym, map, filter, Bool, ◌==◌, ◌⊎◌, inl, inr, if◌then◌else◌, cond, subst}
use Rattle.std.proofs.lemmas.Option.{none-some, same_Some}
use Rattle.tr_tracee.specs.declared.thread.Thread.{Thread}
use Rattle.tr_model.specs.Journals.{Each, IsIn}
use Rattle.tr_model.specs.Moves
use Rattle.tr_model.specs.Tables

module _ (Q : Thread → Type 0) where
  pub each_map : (Q' : Thread → Type 0) (f : Thread → Thread) → ((t : Thread) → Q t → Q' (f t)) → (ts : List Thread) → Each Q ts → Each Q' (map f ts)
  each_map Q' f h [] p = tt
  each_map Q' f h (t ∷ ts) p = (h t p.0, each_map Q' f h ts p.1)

  pub each_weaker : (Q' : Thread → Type 0) → ((t : Thread) → Q t → Q' t) → (ts : List Thread) → Each Q ts → Each Q' ts
  each_weaker Q' h [] p = tt
  each_weaker Q' h (t ∷ ts) p = (h t p.0, each_weaker Q' h ts p.1)

  pub each-append : (xs ys : List Thread) → Each Q xs → Each Q ys → Each Q (xs ++ ys)
  each-append [] ys p q = q
  each-append (x ∷ xs) ys p q = (p.0, each-append xs ys p.1 q)

  pub each_filter : (p : Thread → Bool) (ts : List Thread) → Each Q ts → Each Q (filter p ts)
  each_filter p [] h = tt
  each_filter p (t ∷ ts) h = go (p t) (each_filter p ts h.1)
    where
      go : (b : Bool) → Each Q (filter p ts) → Each Q (cond b (t ∷ filter p ts) (filter p ts))
      go true r = (h.0, r)
      go false r = r

  pub each_found : (id : ℕ) (t : Thread) (ts : List Thread) → Tables.thread_in ts id ≡ Some t → Each Q ts → Q t
  each_found id t [] e h = absurd (none-some t e)
  each_found id t (x ∷ ts) e h = go (x.id == id) e (λ r. each_found id t ts r h.1)
    where
      go : (b : Bool) → (if b then Some x else Tables.thread_in ts id) ≡ Some t → (Tables.thread_in ts id ≡ Some t → Q t) → Q t
      go true r ih = subst Q (same_Some x t r) h.0
      go false r ih = ih r

  pub each_changed : (id : ℕ) (f : Thread → Thread) (t : Thread) → Q (f t) → (ts : List Thread) → Tables.thread_in ts id ≡ Some t → Each Q ts → Each Q (Moves.changed id f ts)
  each_changed id f t q [] e h = tt
  each_changed id f t q (x ∷ ts) e h = go (x.id == id) e (λ r. each_changed id f t q ts r h.1)
    where
      go : (b : Bool) → (if b then Some x else Tables.thread_in ts id) ≡ Some t → (Tables.thread_in ts id ≡ Some t → Each Q (Moves.changed id f ts)) → Each Q (if b then f x ∷ ts else x ∷ Moves.changed id f ts)
      go true r ih = (subst (λ y. Q (f y)) (sym (same_Some x t r)) q, h.1)
      go false r ih = (h.0, ih r)

  pub each_dropped : (id : ℕ) (ts : List Thread) → Each Q ts → Each Q (Moves.dropped id ts)
  each_dropped id [] h = tt
  each_dropped id (x ∷ ts) h = go (x.id == id) (each_dropped id ts h.1)
    where
      go : (b : Bool) → Each Q (Moves.dropped id ts) → Each Q (if b then ts else x ∷ Moves.dropped id ts)
      go true r = h.1
      go false r = (h.0, r)

pub is_in-append : (g : ℕ) (xs ys : List ℕ) → IsIn g (xs ++ ys) → IsIn g xs ⊎ IsIn g ys
is_in-append g [] ys h = inr h
is_in-append g (x ∷ xs) ys (inl e) = inl (inl e)
is_in-append g (x ∷ xs) ys (inr h) = go (is_in-append g xs ys h)
  where
    go : IsIn g xs ⊎ IsIn g ys → IsIn g (x ∷ xs) ⊎ IsIn g ys
    go (inl a) = inl (inr a)
    go (inr b) = inr b
