-- How many numbers have each fate, where one number's fate changes and where numbers are added.
use Rattle.std.proofs.Common.{◌≡◌, ℕ, zero, suc, ◌+◌, ◌≤◌, ◌<◌, List, [], ◌∷◌, ◌++◌, length, length-set, filter, replicate, get_or, set, Bool, true, false, if◌then◌else◌, refl, ap, arith}
use Rattle.tr_model.specs.declared.fates.Fate.{Fate}
use Rattle.tr_model.specs.declared.fates.Fate.TheVariants.{Pending, Merged, Delivered, Suppressed, Flushed}
use Rattle.tr_model.specs.Journals.{same_fate}
use Rattle.tr_kernel.specs.Private.{count_of, counted_under, counts_of}
use Rattle.tr_kernel.proofs.Noted.{count_append}

-- 1 for a fate that is this one
abbrev one_of : Fate → Fate → ℕ
one_of f g = if same_fate f g then 1 else 0

count_first : (f g : Fate) (fs : List Fate) → count_of f (g ∷ fs) ≡ one_of f g + count_of f fs
count_first f g fs = go (same_fate f g)
  where
    go : (b : Bool) → length (if b then g ∷ filter (same_fate f) fs else filter (same_fate f) fs) ≡ (if b then 1 else 0) + count_of f fs
    go true = omega arith
    go false = omega arith

pub count_few : (f : Fate) (fs : List Fate) → count_of f fs ≤ length fs
count_few f [] = omega arith
count_few f (g ∷ fs) = omega (arith, count_first f g fs, count_few f fs, few (same_fate f g))
  where
    few : (b : Bool) → (if b then 1 else 0) ≤ 1
    few true = omega arith
    few false = omega arith

-- a pending number's fate becomes this one
count_set : (f g : Fate) (fs : List Fate) (i : ℕ) (d : Fate) → i < length fs → same_fate Pending (get_or fs i d) ≡ true → count_of f (set fs i g) + one_of f Pending ≡ count_of f fs + one_of f g
count_set f g [] i d l p = absurd (omega arith)
count_set f g (x ∷ fs) zero d l p = omega (arith, count_first f g fs, count_first f x fs, ap (one_of f) (pending x p))
  where
    pending : (x : Fate) → same_fate Pending x ≡ true → x ≡ Pending
    pending Pending q = refl
    pending Merged q = absurd cc
    pending Delivered q = absurd cc
    pending Suppressed q = absurd cc
    pending Flushed q = absurd cc
count_set f g (x ∷ fs) (suc i) d l p = omega (arith, count_first f x (set fs i g), count_first f x fs, count_set f g fs i d (omega arith) p)

stays : (f g : Fate) (fs gs : List Fate) → count_of f gs ≡ count_of f fs + one_of f g → one_of f g ≡ 0 → count_of f gs ≡ count_of f fs
stays f g fs gs e o = omega (arith, e, o)

grows : (f g : Fate) (fs gs : List Fate) → count_of f gs ≡ count_of f fs + one_of f g → one_of f g ≡ 1 → count_of f gs ≡ count_of f fs + 1
grows f g fs gs e o = omega (arith, e, o)

-- one more number has this fate, of all but Pending
counted_is : (g : Fate) (fs gs : List Fate) → ((f : Fate) → same_fate f Pending ≡ false → count_of f gs ≡ count_of f fs + one_of f g) → counted_under g (counts_of fs) ≡ counts_of gs
counted_is Pending fs gs h = rw (stays Merged Pending fs gs (h Merged refl) refl, stays Delivered Pending fs gs (h Delivered refl) refl, stays Suppressed Pending fs gs (h Suppressed refl) refl, stays Flushed Pending fs gs (h Flushed refl) refl) refl
counted_is Merged fs gs h = rw (grows Merged Merged fs gs (h Merged refl) refl, stays Delivered Merged fs gs (h Delivered refl) refl, stays Suppressed Merged fs gs (h Suppressed refl) refl, stays Flushed Merged fs gs (h Flushed refl) refl) refl
counted_is Delivered fs gs h = rw (stays Merged Delivered fs gs (h Merged refl) refl, grows Delivered Delivered fs gs (h Delivered refl) refl, stays Suppressed Delivered fs gs (h Suppressed refl) refl, stays Flushed Delivered fs gs (h Flushed refl) refl) refl
counted_is Suppressed fs gs h = rw (stays Merged Suppressed fs gs (h Merged refl) refl, stays Delivered Suppressed fs gs (h Delivered refl) refl, grows Suppressed Suppressed fs gs (h Suppressed refl) refl, stays Flushed Suppressed fs gs (h Flushed refl) refl) refl
counted_is Flushed fs gs h = rw (stays Merged Flushed fs gs (h Merged refl) refl, stays Delivered Flushed fs gs (h Delivered refl) refl, stays Suppressed Flushed fs gs (h Suppressed refl) refl, grows Flushed Flushed fs gs (h Flushed refl) refl) refl

other : (f : Fate) → same_fate f Pending ≡ false → one_of f Pending ≡ 0
other f q = rw q refl

pub counts_set : (g : Fate) (fs : List Fate) (i : ℕ) (d : Fate) → i < length fs → same_fate Pending (get_or fs i d) ≡ true → counted_under g (counts_of fs) ≡ counts_of (set fs i g)
counts_set g fs i d l p = counted_is g fs (set fs i g) (λ f q. omega (arith, count_set f g fs i d l p, other f q))

pub counts_push : (g : Fate) (fs : List Fate) → counted_under g (counts_of fs) ≡ counts_of (fs ++ g ∷ [])
counts_push g fs = counted_is g fs (fs ++ g ∷ []) (λ f _. omega (arith, count_append f fs (g ∷ []), count_first f g []))

-- one more number can have a fate that isn't Pending
pub one_more : (f : Fate) (fs : List Fate) (i : ℕ) (d : Fate) → one_of f Pending ≡ 0 → one_of f f ≡ 1 → i < length fs → same_fate Pending (get_or fs i d) ≡ true → count_of f fs + 1 ≤ length fs
one_more f fs i d o n l p = omega (arith, count_set f f fs i d l p, o, n, count_few f (set fs i f), length-set fs i f)

-- every number has one of the fates
pub all_counted : (fs : List Fate) → count_of Pending fs + count_of Merged fs + count_of Delivered fs + count_of Suppressed fs + count_of Flushed fs ≡ length fs
all_counted [] = refl
all_counted (g ∷ fs) = omega (arith, count_first Pending g fs, count_first Merged g fs, count_first Delivered g fs, count_first Suppressed g fs, count_first Flushed g fs, all_counted fs, one g)
  where
    one : (g : Fate) → one_of Pending g + one_of Merged g + one_of Delivered g + one_of Suppressed g + one_of Flushed g ≡ 1
    one Pending = refl
    one Merged = refl
    one Delivered = refl
    one Suppressed = refl
    one Flushed = refl

-- More numbers, all pending

count_other : (f : Fate) → same_fate f Pending ≡ false → (n : ℕ) → count_of f (replicate n Pending) ≡ 0
count_other f q zero = refl
count_other f q (suc n) = omega (arith, count_first f Pending (replicate n Pending), count_other f q n, ap {B = ℕ} (λ b. if b then 1 else 0) q)

pub counts_more : (fs : List Fate) (n : ℕ) → counts_of fs ≡ counts_of (fs ++ replicate n Pending)
counts_more fs n = rw (same Merged refl, same Delivered refl, same Suppressed refl, same Flushed refl) refl
  where
    same : (f : Fate) → same_fate f Pending ≡ false → count_of f (fs ++ replicate n Pending) ≡ count_of f fs
    same f q = omega (arith, count_append f fs (replicate n Pending), count_other f q n)
