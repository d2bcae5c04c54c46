-- The place of the first thread with an id.
use Rattle.std.proofs.Common.{◌≡◌, ◌<◌, ◌≤◌, ◌==◌, ℕ, suc, Bool, true, false, List, [], ◌∷◌, Option, Some, None, cond, length, get_or, remove, set, nat_lt, if◌then◌else◌, arith, ap, refl, sym, subst, map, ◌∙◌}
use Rattle.std.specs.List.{position}
use Rattle.std.proofs.lemmas.Bool.{eqb-true}
use Rattle.std.proofs.lemmas.List.{length-map}
use Rattle.std.specs.Prelude.{slice_get}
use Rattle.tr_tracee.specs.declared.thread.Thread.{Thread}
use Rattle.tr_model.specs.Moves.{changed, dropped}
use Rattle.tr_model.specs.Tables.{ids_of, thread_in}
use Rattle.tr_index.proofs.Places.{first, first_is, by_place}
use Rattle.tr_threads.specs.Kept.{IsPlace}
use Rattle.tr_threads.proofs.ThreadLists.{ids_mapped}

-- the place of a record is that of its id
pub position_mapped : {X : Type 0} (p : ℕ → Bool) (f : X → ℕ) (xs : List X) → position p (map f xs) ≡ position (λ x. p (f x)) xs
position_mapped {X = X} p f xs =
    by_first p (map f xs) ∙ ap (λ (n : ℕ). cond (nat_lt n (length (map f xs))) (Some n) None) (go xs)
    ∙ ap (λ (n : ℕ). cond (nat_lt (first (λ x. p (f x)) xs) n) (Some (first (λ x. p (f x)) xs)) None) (length-map xs f)
    ∙ sym (by_first (λ x. p (f x)) xs)
  where
    by_first : {Y : Type 0} (q : Y → Bool) (ys : List Y) → position q ys ≡ cond (nat_lt (first q ys) (length ys)) (Some (first q ys)) None
    by_first q ys = ap (λ (n : ℕ). cond (nat_lt n (length ys)) (Some n) None) (sym (first_is q ys))

    go : (ys : List X) → first p (map f ys) ≡ first (λ x. p (f x)) ys
    go [] = refl
    go (y ∷ ys) = ap (λ (n : ℕ). if p (f y) then 0 else suc n) (go ys)

module _ (id : ℕ) where
  written : (f : Thread → Thread) (d : Thread) (ts : List Thread) → set ts (first (λ t. t.id == id) ts) (f (get_or ts (first (λ t. t.id == id) ts) d)) ≡ changed id f ts
  written f d [] = refl
  written f d (t ∷ ts) = go (t.id == id) (written f d ts)
    where
      go : (b : Bool) → set ts (first (λ t. t.id == id) ts) (f (get_or ts (first (λ t. t.id == id) ts) d)) ≡ changed id f ts
          → set (t ∷ ts) (if b then 0 else suc (first (λ t. t.id == id) ts)) (f (get_or (t ∷ ts) (if b then 0 else suc (first (λ t. t.id == id) ts)) d)) ≡ (if b then f t ∷ ts else t ∷ changed id f ts)
      go true h = refl
      go false h = ap (λ us. t ∷ us) h

  closed : (ts : List Thread) → remove ts (first (λ t. t.id == id) ts) ≡ dropped id ts
  closed [] = refl
  closed (t ∷ ts) = go (t.id == id) (closed ts)
    where
      go : (b : Bool) → remove ts (first (λ t. t.id == id) ts) ≡ dropped id ts → remove (t ∷ ts) (if b then 0 else suc (first (λ t. t.id == id) ts)) ≡ (if b then ts else t ∷ dropped id ts)
      go true h = refl
      go false h = ap (λ us. t ∷ us) h

  thread_there : (ts : List Thread) → first (λ t. t.id == id) ts < length ts → (thread_in ts id ≡ slice_get ts (first (λ t. t.id == id) ts)) × ((d : Thread) → (get_or ts (first (λ t. t.id == id) ts) d).id ≡ id)
  thread_there [] h = absurd (omega (arith, h))
  thread_there (t ∷ ts) h = go (t.id == id) refl h (thread_there ts)
    where
      go : (b : Bool) → (t.id == id) ≡ b → (if b then 0 else suc (first (λ u. u.id == id) ts)) < suc (length ts)
          → (first (λ u. u.id == id) ts < length ts → (thread_in ts id ≡ slice_get ts (first (λ u. u.id == id) ts)) × ((d : Thread) → (get_or ts (first (λ u. u.id == id) ts) d).id ≡ id))
          → (cond b (Some t) (thread_in ts id) ≡ slice_get (t ∷ ts) (if b then 0 else suc (first (λ u. u.id == id) ts))) × ((d : Thread) → (get_or (t ∷ ts) (if b then 0 else suc (first (λ u. u.id == id) ts)) d).id ≡ id)
      go true e k r = (refl, λ d. eqb-true t.id id e)
      go false e k r = r (omega (arith, k))

  nowhere : (ts : List Thread) → length ts ≤ first (λ t. t.id == id) ts → ((f : Thread → Thread) → changed id f ts ≡ ts) × (dropped id ts ≡ ts) × (thread_in ts id ≡ None)
  nowhere [] h = (λ f. refl, refl, refl)
  nowhere (t ∷ ts) h = go (t.id == id) h (nowhere ts)
    where
      go : (b : Bool) → suc (length ts) ≤ (if b then 0 else suc (first (λ u. u.id == id) ts)) → (length ts ≤ first (λ u. u.id == id) ts → ((f : Thread → Thread) → changed id f ts ≡ ts) × (dropped id ts ≡ ts) × (thread_in ts id ≡ None))
          → ((f : Thread → Thread) → (if b then f t ∷ ts else t ∷ changed id f ts) ≡ t ∷ ts) × ((if b then ts else t ∷ dropped id ts) ≡ t ∷ ts) × (cond b (Some t) (thread_in ts id) ≡ None)
      go true k r = absurd (omega (arith, k))
      go false k r = let s = r (omega (arith, k)) in (λ f. ap (λ us. t ∷ us) (s.0 f), ap (λ us. t ∷ us) s.1, s.2)

  pub is_place : (ts : List Thread) (ids : List ℕ) (r : Option ℕ) → ids ≡ ids_of ts → r ≡ position (λ n. n == id) ids → IsPlace id ts r
  is_place ts ids r i e =
      let at : r ≡ position (λ t. t.id == id) ts = e ∙ (ap (λ (ns : List ℕ). position (λ n. n == id) ns) (i ∙ ids_mapped ts) ∙ position_mapped (λ n. n == id) (λ t. t.id) ts) in
      subst (IsPlace id ts) (sym at) (by_place (λ t. t.id == id) ts (IsPlace id ts) (λ h. let t = thread_there ts h in (h, λ f d y k. rw k (written f d ts), closed ts, t.0, t.1)) (nowhere ts))
