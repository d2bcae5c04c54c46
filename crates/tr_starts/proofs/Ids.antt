-- The ids of a start's threads, group by group, and numbers that stand once.
use Rattle.std.proofs.Common.{◌≡◌, ◌==◌, ◌≤◌, ◌-◌, ◌&&◌, ◌||◌, ℕ, List, [], ◌∷◌, ◌++◌, refl, arith, map, length, get_or, take, drop, Bool, not}
use Rattle.std.specs.List.{list_all, list_any}
use Rattle.std.proofs.lemmas.List.Folds.{list_all-append, list_all-map, list_any-append}
use Rattle.std.proofs.Math.Seq.{take-length}
use Rattle.tr_index.proofs.Mapped.{any_mapped}
use Rattle.tr_starts.specs.declared.starts.GroupStart.{GroupStart}
use Rattle.tr_starts.specs.Starts.{ids_started, is_good_id, no_repeat}

-- whether all ids are good, group by group
pub good_ids : (gs : List GroupStart) → list_all is_good_id (ids_started gs) ≡ list_all (λ g. list_all (λ t. is_good_id t.0) g.threads) gs
good_ids [] = refl
good_ids (g ∷ gs) = rw (list_all-append is_good_id (map (λ t. t.0) g.threads) (ids_started gs), list_all-map is_good_id (λ t. t.0) g.threads, good_ids gs) refl

-- whether some id passes a test, group by group
pub any_id : (p : ℕ → Bool) (gs : List GroupStart) → list_any p (ids_started gs) ≡ list_any (λ g. list_any (λ t. p t.0) g.threads) gs
any_id p [] = refl
any_id p (g ∷ gs) = rw (list_any-append p (map (λ t. t.0) g.threads) (ids_started gs), any_mapped p (λ t. t.0) g.threads, any_id p gs) refl

-- what stands after the first, as a pattern of a slice has it
abbrev pub later : {X : Type 0} → List X → List X
later xs = take (length xs - 1) (drop 1 xs)

pub later_cons : {X : Type 0} (x : X) (xs : List X) → later (x ∷ xs) ≡ xs
later_cons x xs = let e : length (x ∷ xs) - 1 ≡ length xs = omega arith in rw e (take-length xs)

-- numbers stand once where the first does and the later ones do
pub first_once : {X : Type 0} (f : X → ℕ) (xs : List X) (d : X) → 1 ≤ length xs → no_repeat (map f xs) ≡ (not (list_any (λ x. f x == f (get_or xs 0 d)) (later xs)) && no_repeat (map f (later xs)))
first_once f [] d h = absurd (omega arith)
first_once f (x ∷ xs) d h = rw (later_cons x xs, any_mapped (λ n. n == f x) f xs) refl

-- the same where ids of groups follow
pub first_new : {X : Type 0} (f : X → ℕ) (xs : List X) (gs : List GroupStart) (d : X) → 1 ≤ length xs → no_repeat (map f xs ++ ids_started gs) ≡ (not (list_any (λ x. f x == f (get_or xs 0 d)) (later xs) || list_any (λ g. list_any (λ t. t.0 == f (get_or xs 0 d)) g.threads) gs) && no_repeat (map f (later xs) ++ ids_started gs))
first_new f [] gs d h = absurd (omega arith)
first_new f (x ∷ xs) gs d h = rw (later_cons x xs, list_any-append (λ n. n == f x) (map f xs) (ids_started gs), any_mapped (λ n. n == f x) f xs, any_id (λ n. n == f x) gs) refl
