-- The place of the first group with an id.
use Rattle.std.proofs.Common.{◌≡◌, ◌<◌, ◌≤◌, ◌==◌, ℕ, suc, Bool, true, false, List, [], ◌∷◌, Option, Some, None, cond, length, get_or, set, if◌then◌else◌, arith, ap, refl, sym, subst, ◌∙◌}
use Rattle.std.specs.List.{position}
use Rattle.std.proofs.lemmas.Bool.{eqb-true}
use Rattle.std.specs.Prelude.{slice_get}
use Rattle.tr_model.specs.declared.rows.Group.{Group}
use Rattle.tr_model.specs.Moves.{group_changed}
use Rattle.tr_model.specs.Tables.{group_in}
use Rattle.tr_index.proofs.Places.{first, by_place}
use Rattle.tr_threads.proofs.Places.{position_mapped}
use Rattle.tr_table.specs.Private.{IsGroupPlace, tgids_of}

module _ (g : ℕ) where
  group_written : (f : Group → Group) (d : Group) (xs : List Group) → set xs (first (λ x. x.tgid == g) xs) (f (get_or xs (first (λ x. x.tgid == g) xs) d)) ≡ group_changed g f xs
  group_written f d [] = refl
  group_written f d (x ∷ xs) = go (x.tgid == g) (group_written f d xs)
    where
      go : (b : Bool) → set xs (first (λ x. x.tgid == g) xs) (f (get_or xs (first (λ x. x.tgid == g) xs) d)) ≡ group_changed g f xs
          → set (x ∷ xs) (if b then 0 else suc (first (λ x. x.tgid == g) xs)) (f (get_or (x ∷ xs) (if b then 0 else suc (first (λ x. x.tgid == g) xs)) d)) ≡ (if b then f x ∷ xs else x ∷ group_changed g f xs)
      go true h = refl
      go false h = ap (λ us. x ∷ us) h

  group_there : (xs : List Group) → first (λ x. x.tgid == g) xs < length xs → (group_in xs g ≡ slice_get xs (first (λ x. x.tgid == g) xs)) × ((d : Group) → (get_or xs (first (λ x. x.tgid == g) xs) d).tgid ≡ g)
  group_there [] h = absurd (omega (arith, h))
  group_there (x ∷ xs) h = go (x.tgid == g) refl h (group_there xs)
    where
      there : List Group → ℕ
      there ys = first (λ x. x.tgid == g) ys

      go : (b : Bool) → (x.tgid == g) ≡ b → (if b then 0 else suc (first (λ x. x.tgid == g) xs)) < suc (length xs)
          → (first (λ x. x.tgid == g) xs < length xs → (group_in xs g ≡ slice_get xs (first (λ x. x.tgid == g) xs)) × ((d : Group) → (get_or xs (first (λ x. x.tgid == g) xs) d).tgid ≡ g))
          → (cond b (Some x) (group_in xs g) ≡ slice_get (x ∷ xs) (if b then 0 else suc (first (λ x. x.tgid == g) xs))) × ((d : Group) → (get_or (x ∷ xs) (if b then 0 else suc (first (λ x. x.tgid == g) xs)) d).tgid ≡ g)
      go true e k r = (refl, λ d. eqb-true x.tgid g e)
      go false e k r = r (omega (arith, k))

  no_group : (xs : List Group) → length xs ≤ first (λ x. x.tgid == g) xs → ((f : Group → Group) → group_changed g f xs ≡ xs) × (group_in xs g ≡ None)
  no_group [] h = (λ f. refl, refl)
  no_group (x ∷ xs) h = go (x.tgid == g) h (no_group xs)
    where
      go : (b : Bool) → suc (length xs) ≤ (if b then 0 else suc (first (λ x. x.tgid == g) xs)) → (length xs ≤ first (λ x. x.tgid == g) xs → ((f : Group → Group) → group_changed g f xs ≡ xs) × (group_in xs g ≡ None))
          → ((f : Group → Group) → (if b then f x ∷ xs else x ∷ group_changed g f xs) ≡ x ∷ xs) × (cond b (Some x) (group_in xs g) ≡ None)
      go true k r = absurd (omega (arith, k))
      go false k r = let s = r (omega (arith, k)) in (λ f. ap (λ us. x ∷ us) (s.0 f), s.1)

  pub is_group_place : (xs : List Group) (ids : List ℕ) (r : Option ℕ) → ids ≡ tgids_of xs → r ≡ position (λ n. n == g) ids → IsGroupPlace g xs r
  is_group_place xs ids r i e =
      let at : r ≡ position (λ x. x.tgid == g) xs = e ∙ (ap (λ (ns : List ℕ). position (λ n. n == g) ns) i ∙ position_mapped (λ n. n == g) (λ x. x.tgid) xs) in
      subst (IsGroupPlace g xs) (sym at) (by_place (λ x. x.tgid == g) xs (IsGroupPlace g xs) (λ h. let t = group_there xs h in (h, λ f d y k. rw k (group_written f d xs), t.0, t.1)) (no_group xs))
