-- The fates that a kernel writes down are those of its journal.
use Rattle.std.proofs.Common.{◌≡◌, ℕ, zero, suc, ◌+◌, ◌-◌, ◌≤◌, ◌<◌, List, [], ◌∷◌, ◌++◌, length, length-append, filter, replicate, Bool, true, false, ◌&&◌, ◌==◌, if◌then◌else◌, Some, None, nat_le, slice_get, get_or, set, refl, sym, ap, ap₂, ◌∙◌, arith, append-nil, append_assoc, unwrap_or}
use Rattle.std.proofs.lemmas.Bool.{le-leb, leb-true, leb-false, eq-eqb, ne_eqb, and_from}
use Rattle.std.proofs.lemmas.List.Elements.{filter-append}
use Rattle.tr_model.specs.Entries.{Entry}
use Rattle.tr_model.specs.declared.fates.Ending.{Ending}
use Rattle.tr_model.specs.declared.fates.Fate.{Fate}
use Rattle.tr_model.specs.declared.fates.Fate.TheVariants.{Pending, Merged, Delivered, Suppressed, Flushed}
use Rattle.tr_model.specs.Journals.{ended_as, ended_by, fate_of, how_many, counts, numbers_of, occurs, same_fate}
use Rattle.tr_model.specs.Tables.{Table}
use Rattle.tr_model.proofs.Kept.{is_pending}
use Rattle.tr_model.proofs.Live.{AllLive}
use Rattle.tr_kernel.specs.Fates.{fates_from, fates_to}
use Rattle.tr_kernel.specs.Private.{count_of, ending_noted, endings_noted, first_of}

-- One ending more

stays : (f g : Fate) → is_pending f ≡ false → first_of f g ≡ f
stays Pending g h = absurd cc
stays Merged g h = refl
stays Delivered g h = refl
stays Suppressed g h = refl
stays Flushed g h = refl

note_one : (E : List Ending) (x : Ending) (n : ℕ) → AllLive E → (if x.number == n then first_of (unwrap_or (ended_as E n) Pending) x.fate else unwrap_or (ended_as E n) Pending) ≡ unwrap_or (ended_as (E ++ x ∷ []) n) Pending
note_one [] x n l = go (x.number == n)
  where
    go : (b : Bool) → (if b then x.fate else Pending) ≡ unwrap_or (if b then Some x.fate else None) Pending
    go true = refl
    go false = refl
note_one (e ∷ es) x n l = go (e.number == n) (x.number == n) (note_one es x n l.1)
  where
    go : (b c : Bool) → (if c then first_of (unwrap_or (ended_as es n) Pending) x.fate else unwrap_or (ended_as es n) Pending) ≡ unwrap_or (ended_as (es ++ x ∷ []) n) Pending
        → (if c then first_of (unwrap_or (if b then Some e.fate else ended_as es n) Pending) x.fate else unwrap_or (if b then Some e.fate else ended_as es n) Pending) ≡ unwrap_or (if b then Some e.fate else ended_as (es ++ x ∷ []) n) Pending
    go true true h = stays e.fate x.fate l.0
    go true false h = refl
    go false c h = h

noted_is : (E : List Ending) (x : Ending) (n k : ℕ) → AllLive E → ending_noted n x (fates_from E n k) ≡ fates_from (E ++ x ∷ []) n k
noted_is E x n zero l = refl
noted_is E x n (suc k) l = ap₂ (λ f fs. f ∷ fs) (note_one E x n l) (noted_is E x (suc n) k l)

live_then : (E : List Ending) (x : Ending) → AllLive E → is_pending x.fate ≡ false → AllLive (E ++ x ∷ [])
live_then [] x l h = (h, tt)
live_then (e ∷ es) x l h = (l.0, live_then es x l.1 h)

pub endings_noted_is : (E X : List Ending) (k : ℕ) → AllLive E → AllLive X → endings_noted X (fates_to E k) ≡ fates_to (E ++ X) k
endings_noted_is E [] k l m = ap (λ es. fates_to es k) (sym (append-nil E))
endings_noted_is E (x ∷ X) k l m =
    ap (endings_noted X) (noted_is E x 1 k l)
    ∙ (endings_noted_is (E ++ x ∷ []) X k (live_then E x l m.0) m.1 ∙ ap (λ es. fates_to es k) (append_assoc E (x ∷ []) X))

-- One ending, by its place

noted_before : (n : ℕ) (x : Ending) (fs : List Fate) → x.number < n → fs ≡ ending_noted n x fs
noted_before n x [] h = refl
noted_before n x (f ∷ fs) h = ap₂ (λ g gs. g ∷ gs) (go (x.number == n) (ne_eqb x.number n (λ e. omega arith))) (noted_before (suc n) x fs (omega arith))
  where
    go : (b : Bool) → b ≡ false → f ≡ (if b then first_of f x.fate else f)
    go true e = absurd cc
    go false e = refl

pub noted_past : (n : ℕ) (x : Ending) (fs : List Fate) → n + length fs ≤ x.number → fs ≡ ending_noted n x fs
noted_past n x [] h = refl
noted_past n x (f ∷ fs) h = ap₂ (λ g gs. g ∷ gs) (go (x.number == n) (ne_eqb x.number n (λ e. omega arith))) (noted_past (suc n) x fs (omega arith))
  where
    go : (b : Bool) → b ≡ false → f ≡ (if b then first_of f x.fate else f)
    go true e = absurd cc
    go false e = refl

opened_first : (f g : Fate) → same_fate Pending f ≡ true → g ≡ first_of f g
opened_first f g h = rw h refl

closed_first : (f g : Fate) → same_fate Pending f ≡ false → f ≡ first_of f g
closed_first f g h = rw h refl

pub noted_open : (n : ℕ) (x : Ending) (fs : List Fate) (i : ℕ) (d : Fate) → x.number ≡ n + i → i < length fs → same_fate Pending (get_or fs i d) ≡ true → set fs i x.fate ≡ ending_noted n x fs
noted_open n x [] i d e h o = absurd (omega arith)
noted_open n x (f ∷ fs) zero d e h o = ap₂ (λ g gs. g ∷ gs) (go (x.number == n) (eq-eqb x.number n (omega arith))) (noted_before (suc n) x fs (omega arith))
  where
    go : (b : Bool) → b ≡ true → x.fate ≡ (if b then first_of f x.fate else f)
    go true q = opened_first f x.fate o
    go false q = absurd cc
noted_open n x (f ∷ fs) (suc i) d e h o = ap₂ (λ g gs. g ∷ gs) (go (x.number == n) (ne_eqb x.number n (λ q. omega arith))) (noted_open (suc n) x fs i d (omega arith) (omega arith) o)
  where
    go : (b : Bool) → b ≡ false → f ≡ (if b then first_of f x.fate else f)
    go true q = absurd cc
    go false q = refl

pub noted_closed : (n : ℕ) (x : Ending) (fs : List Fate) (i : ℕ) (d : Fate) → x.number ≡ n + i → i < length fs → same_fate Pending (get_or fs i d) ≡ false → fs ≡ ending_noted n x fs
noted_closed n x [] i d e h o = absurd (omega arith)
noted_closed n x (f ∷ fs) zero d e h o = ap₂ (λ g gs. g ∷ gs) (go (x.number == n) (eq-eqb x.number n (omega arith))) (noted_before (suc n) x fs (omega arith))
  where
    go : (b : Bool) → b ≡ true → f ≡ (if b then first_of f x.fate else f)
    go true q = closed_first f x.fate o
    go false q = absurd cc
noted_closed n x (f ∷ fs) (suc i) d e h o = ap₂ (λ g gs. g ∷ gs) (go (x.number == n) (ne_eqb x.number n (λ q. omega arith))) (noted_closed (suc n) x fs i d (omega arith) (omega arith) o)
  where
    go : (b : Bool) → b ≡ false → f ≡ (if b then first_of f x.fate else f)
    go true q = absurd cc
    go false q = refl

pub noted_none : (x : Ending) (fs : List Fate) → x.number ≡ 0 → fs ≡ ending_noted 1 x fs
noted_none x fs h = noted_before 1 x fs (omega arith)

pub noted_last : (n : ℕ) (x : Ending) (fs : List Fate) → x.number ≡ n + length fs → fs ++ x.fate ∷ [] ≡ ending_noted n x (fs ++ Pending ∷ [])
noted_last n x [] e = ap (λ f. f ∷ []) (go (x.number == n) (eq-eqb x.number n (omega arith)))
  where
    go : (b : Bool) → b ≡ true → x.fate ≡ (if b then first_of Pending x.fate else Pending)
    go true q = refl
    go false q = absurd cc
noted_last n x (f ∷ fs) e = ap₂ (λ g gs. g ∷ gs) (go (x.number == n) (ne_eqb x.number n (λ q. omega arith))) (noted_last (suc n) x fs (omega arith))
  where
    go : (b : Bool) → b ≡ false → f ≡ (if b then first_of f x.fate else f)
    go true q = absurd cc
    go false q = refl

-- More numbers

pub not_ended : (E : List Ending) (n : ℕ) → occurs n (numbers_of E) ≡ 0 → ended_as E n ≡ None
not_ended [] n h = refl
not_ended (e ∷ es) n h = go (e.number == n) h (not_ended es n)
  where
    go : (b : Bool) → (if b then 1 else 0) + occurs n (numbers_of es) ≡ 0 → (occurs n (numbers_of es) ≡ 0 → ended_as es n ≡ None) → (if b then Some e.fate else ended_as es n) ≡ None
    go true q r = absurd (omega arith)
    go false q r = r (omega arith)

open_from : (E : List Ending) (n d : ℕ) → ((m : ℕ) → n ≤ m → ended_as E m ≡ None) → replicate d Pending ≡ fates_from E n d
open_from E n zero h = refl
open_from E n (suc d) h = ap₂ (λ f fs. f ∷ fs) (ap (λ o. unwrap_or o Pending) (sym (h n (omega arith)))) (open_from E (suc n) d (λ m l. h m (omega arith)))

pub grown : (E : List Ending) (n k d : ℕ) → ((m : ℕ) → n + k ≤ m → ended_as E m ≡ None) → fates_from E n k ++ replicate d Pending ≡ fates_from E n (k + d)
grown E n zero d h = let e : d ≡ 0 + d = omega arith in open_from E n d (λ m l. h m (omega arith)) ∙ ap (fates_from E n) e
grown E n (suc k) d h =
    let e : suc (k + d) ≡ suc k + d = omega arith in
    ap (λ fs. unwrap_or (ended_as E n) Pending ∷ fs) (grown E (suc n) k d (λ m l. h m (omega arith))) ∙ ap (fates_from E n) e

pub length_fates : (E : List Ending) (n k : ℕ) → length (fates_from E n k) ≡ k
length_fates E n zero = refl
length_fates E n (suc k) = ap suc (length_fates E (suc n) k)

-- One number's

pub fate_within : (E : List Ending) (n k i : ℕ) → i < k → slice_get (fates_from E n k) i ≡ Some (unwrap_or (ended_as E (n + i)) Pending)
fate_within E n zero i h = absurd (omega arith)
fate_within E n (suc k) zero h = ap (λ m. Some (unwrap_or (ended_as E m) Pending)) (omega arith)
fate_within E n (suc k) (suc i) h = fate_within E (suc n) k i (omega arith) ∙ ap (λ m. Some (unwrap_or (ended_as E m) Pending)) (omega arith)

pub fate_past : (E : List Ending) (n k i : ℕ) → k ≤ i → slice_get (fates_from E n k) i ≡ None
fate_past E n zero i h = refl
fate_past E n (suc k) zero h = absurd (omega arith)
fate_past E n (suc k) (suc i) h = fate_past E (suc n) k i (omega arith)

-- the fate that is kept of a number is the journal's
pub fate_kept : (T U : Table) (es : List Entry) (n : ℕ) → 1 ≤ n → slice_get (fates_to (ended_by T es) U.accepted) (n - 1) ≡ fate_of T es U n
fate_kept T U es n h = go (nat_le n U.accepted) refl
  where
    at : 1 + (n - 1) ≡ n
    at = omega arith

    first : nat_le 1 n ≡ true
    first = le-leb 1 n h

    go : (b : Bool) → nat_le n U.accepted ≡ b → slice_get (fates_to (ended_by T es) U.accepted) (n - 1) ≡ fate_of T es U n
    go true q = let l = leb-true n U.accepted q in fate_within (ended_by T es) 1 U.accepted (n - 1) (omega arith) ∙ rw (at, first, q) refl
    go false q = let l = leb-false n U.accepted q in fate_past (ended_by T es) 1 U.accepted (n - 1) (omega arith) ∙ rw (first, q) refl

-- How many

pub count_append : (f : Fate) (xs ys : List Fate) → count_of f (xs ++ ys) ≡ count_of f xs + count_of f ys
count_append f xs ys = ap length (filter-append (same_fate f) xs ys) ∙ length-append (filter (same_fate f) xs) (filter (same_fate f) ys)

fates_snoc : (E : List Ending) (n k : ℕ) → fates_from E n (suc k) ≡ fates_from E n k ++ unwrap_or (ended_as E (n + k)) Pending ∷ []
fates_snoc E n zero = ap (λ m. unwrap_or (ended_as E m) Pending ∷ []) (omega arith)
fates_snoc E n (suc k) = ap (λ fs. unwrap_or (ended_as E n) Pending ∷ fs) (fates_snoc E (suc n) k ∙ ap (λ m. fates_from E (suc n) k ++ unwrap_or (ended_as E m) Pending ∷ []) (omega arith))

pub count_is : (T U : Table) (es : List Entry) (f : Fate) (k : ℕ) → k ≤ U.accepted → count_of f (fates_to (ended_by T es) k) ≡ how_many T es U f k
count_is T U es f zero h = refl
count_is T U es f (suc k) h =
    let E = ended_by T es in
    let e : 1 + k ≡ suc k = omega arith in
    ap (count_of f) (fates_snoc E 1 k ∙ ap (λ m. fates_to E k ++ unwrap_or (ended_as E m) Pending ∷ []) e)
    ∙ (count_append f (fates_to E k) (unwrap_or (ended_as E (suc k)) Pending ∷ []) ∙ omega (arith, one, count_is T U es f k (omega arith)))
  where
    go : (b : Bool) → b ≡ true → (o : Fate) → length (filter (same_fate f) (o ∷ [])) ≡ counts f (if b then Some o else None)
    go true e o = alone (same_fate f o)
      where
        alone : (b : Bool) → length (if b then o ∷ [] else []) ≡ (if b then 1 else 0)
        alone true = refl
        alone false = refl
    go false e o = absurd cc

    one : count_of f (unwrap_or (ended_as (ended_by T es) (suc k)) Pending ∷ []) ≡ counts f (fate_of T es U (suc k))
    one = go (nat_le 1 (suc k) && nat_le (suc k) U.accepted) (and_from _ _ (le-leb 1 (suc k) (omega arith)) (le-leb (suc k) U.accepted h)) (unwrap_or (ended_as (ended_by T es) (suc k)) Pending)
