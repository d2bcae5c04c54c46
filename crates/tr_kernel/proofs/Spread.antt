-- The notes of all entries, by those that are kept.
use Rattle.std.proofs.Common.{◌≡◌, ℕ, zero, suc, ◌+◌, ◌-◌, ◌≤◌, ◌<◌, ◌==◌, List, [], ◌∷◌, ◌++◌, length, take, get_or, Bool, true, false, if◌then◌else◌, Some, refl, sym, ap, ◌∙◌, subst, arith}
use Rattle.std.proofs.lemmas.Bool.{eq-eqb, eqb-false, eqb-true, le-leb, leb-false, leb-true, ne_eqb}
use Rattle.std.proofs.lemmas.Option.{none-some, same_Some}
use Rattle.std.specs.List.Sorted.{IsPartitionPoint, IsPartitionedBy}
use Rattle.std.specs.Prelude.{nat_le, slice_get}
use Rattle.tr_kernel.specs.declared.note_list.KeptNote.{KeptNote}
use Rattle.tr_kernel.specs.Kept.{AreWithin, IsUpto, blank, deaths_of, note_upto, noted, spread}

pub length_spread : (ks : List KeptNote) (d p n : ℕ) → length (spread ks d p n) ≡ n
length_spread ks d p zero = refl
length_spread [] d p (suc n) = ap suc (length_spread [] d (suc p) n)
length_spread (k ∷ ks) d p (suc n) = go (k.place == p) (length_spread ks k.deaths (suc p) n) (length_spread (k ∷ ks) d (suc p) n)
  where
    go : (b : Bool) → length (spread ks k.deaths (suc p) n) ≡ n → length (spread (k ∷ ks) d (suc p) n) ≡ n
        → length (if b then noted k ∷ spread ks k.deaths (suc p) n else blank d ∷ spread (k ∷ ks) d (suc p) n) ≡ suc n
    go true h i = ap suc h
    go false h i = ap suc i

-- One note more

pub within_more : (from to : ℕ) (ks : List KeptNote) → AreWithin from to ks → AreWithin from (to + 1) ks
within_more from to [] h = omega (arith, h)
within_more from to (k ∷ ks) h = (h.0, omega (arith, h.1), within_more (suc k.place) to ks h.2)

pub within_push : (from to : ℕ) (ks : List KeptNote) (x : KeptNote) → x.place ≡ to → from ≤ to → AreWithin from to ks → AreWithin from (to + 1) (ks ++ x ∷ [])
within_push from to [] x e l h = (omega (arith, e, l), omega (arith, e), omega (arith, e))
within_push from to (k ∷ ks) x e l h = (h.0, omega (arith, h.1), within_push (suc k.place) to ks x e (omega (arith, h.1)) h.2)

spread_blank : (ks : List KeptNote) (d p n : ℕ) → AreWithin p (p + n) ks → spread ks d p (suc n) ≡ spread ks d p n ++ blank (deaths_of d ks) ∷ []
spread_blank [] d p zero h = refl
spread_blank [] d p (suc n) h = ap (λ ns. blank d ∷ ns) (spread_blank [] d (suc p) n (omega arith))
spread_blank (k ∷ ks) d p zero h = absurd (omega (arith, h.0, h.1))
spread_blank (k ∷ ks) d p (suc n) h = go (k.place == p) refl (spread_blank ks k.deaths (suc p) n) (spread_blank (k ∷ ks) d (suc p) n)
  where
    same : p + suc n ≡ suc p + n
    same = omega arith

    go : (b : Bool) → k.place == p ≡ b
        → (AreWithin (suc p) (suc p + n) ks → spread ks k.deaths (suc p) (suc n) ≡ spread ks k.deaths (suc p) n ++ blank (deaths_of k.deaths ks) ∷ [])
        → (AreWithin (suc p) (suc p + n) (k ∷ ks) → spread (k ∷ ks) d (suc p) (suc n) ≡ spread (k ∷ ks) d (suc p) n ++ blank (deaths_of d (k ∷ ks)) ∷ [])
        → (if b then noted k ∷ spread ks k.deaths (suc p) (suc n) else blank d ∷ spread (k ∷ ks) d (suc p) (suc n))
        ≡ (if b then noted k ∷ spread ks k.deaths (suc p) n else blank d ∷ spread (k ∷ ks) d (suc p) n) ++ blank (deaths_of d (k ∷ ks)) ∷ []
    go true e r q = ap (λ ns. noted k ∷ ns) (r (subst (λ q. AreWithin (suc p) q ks) same (subst (λ q. AreWithin (suc q) (p + suc n) ks) (eqb-true k.place p e) h.2)))
    go false e r q =
        ap (λ ns. blank d ∷ ns) (q (omega (arith, h.0, eqb-false k.place p e), omega (arith, h.1), subst (λ q. AreWithin (suc k.place) q ks) same h.2))

spread_kept : (ks : List KeptNote) (x : KeptNote) (d p n : ℕ) → AreWithin p (p + n) ks → x.place ≡ p + n → spread (ks ++ x ∷ []) d p (suc n) ≡ spread ks d p n ++ noted x ∷ []
spread_kept [] x d p zero h e = go (x.place == p) (eq-eqb x.place p (omega (arith, e)))
  where
    go : (b : Bool) → b ≡ true → (if b then noted x ∷ [] else blank d ∷ []) ≡ noted x ∷ []
    go true q = refl
    go false q = absurd cc
spread_kept [] x d p (suc n) h e = go (x.place == p) (ne_eqb x.place p (λ q. omega (arith, e, q))) (spread_kept [] x d (suc p) n (omega arith) (omega (arith, e)))
  where
    go : (b : Bool) → b ≡ false → spread (x ∷ []) d (suc p) (suc n) ≡ spread [] d (suc p) n ++ noted x ∷ []
        → (if b then noted x ∷ spread [] x.deaths (suc p) (suc n) else blank d ∷ spread (x ∷ []) d (suc p) (suc n)) ≡ blank d ∷ spread [] d (suc p) n ++ noted x ∷ []
    go true q r = absurd cc
    go false q r = ap (λ ns. blank d ∷ ns) r
spread_kept (k ∷ ks) x d p zero h e = absurd (omega (arith, h.0, h.1))
spread_kept (k ∷ ks) x d p (suc n) h e = go (k.place == p) refl (spread_kept ks x k.deaths (suc p) n) (spread_kept (k ∷ ks) x d (suc p) n)
  where
    same : p + suc n ≡ suc p + n
    same = omega arith

    go : (b : Bool) → k.place == p ≡ b
        → (AreWithin (suc p) (suc p + n) ks → x.place ≡ suc p + n → spread (ks ++ x ∷ []) k.deaths (suc p) (suc n) ≡ spread ks k.deaths (suc p) n ++ noted x ∷ [])
        → (AreWithin (suc p) (suc p + n) (k ∷ ks) → x.place ≡ suc p + n → spread (k ∷ ks ++ x ∷ []) d (suc p) (suc n) ≡ spread (k ∷ ks) d (suc p) n ++ noted x ∷ [])
        → (if b then noted k ∷ spread (ks ++ x ∷ []) k.deaths (suc p) (suc n) else blank d ∷ spread (k ∷ ks ++ x ∷ []) d (suc p) (suc n))
        ≡ (if b then noted k ∷ spread ks k.deaths (suc p) n else blank d ∷ spread (k ∷ ks) d (suc p) n) ++ noted x ∷ []
    go true q r t =
        ap (λ ns. noted k ∷ ns) (r (subst (λ m. AreWithin (suc p) m ks) same (subst (λ m. AreWithin (suc m) (p + suc n) ks) (eqb-true k.place p q) h.2)) (e ∙ same))
    go false q r t =
        ap (λ ns. blank d ∷ ns) (t (omega (arith, h.0, eqb-false k.place p q), omega (arith, h.1), subst (λ m. AreWithin (suc k.place) m ks) same h.2) (e ∙ same))

-- One entry more

module _ (ks : List KeptNote) (n : ℕ) (within : AreWithin 0 n ks) where
  fits : AreWithin 0 (0 + n) ks
  fits = subst (λ m. AreWithin 0 m ks) (omega arith) within

  up : n + 1 ≡ suc n
  up = omega arith

  pub blank_more : spread ks 0 0 (n + 1) ≡ spread ks 0 0 n ++ blank (deaths_of 0 ks) ∷ []
  blank_more = ap (spread ks 0 0) up ∙ spread_blank ks 0 0 n fits

  pub note_more : (x : KeptNote) → x.place ≡ n → spread (ks ++ x ∷ []) 0 0 (n + 1) ≡ spread ks 0 0 n ++ noted x ∷ []
  note_more x e = ap (spread (ks ++ x ∷ []) 0 0) up ∙ spread_kept ks x 0 0 n fits (omega (arith, e))

-- The note at a place

upto_next : (d p : ℕ) (k : KeptNote) (ks : List KeptNote) → k.place < p → note_upto d p (k ∷ ks) ≡ note_upto k.deaths p ks
upto_next d p k [] l = go (k.place == p) (ne_eqb k.place p (λ q. omega (arith, q, l)))
  where
    go : (b : Bool) → b ≡ false → (if b then noted k else blank k.deaths) ≡ blank k.deaths
    go true q = absurd cc
    go false q = refl
upto_next d p k (x ∷ ks) l = refl

upto_only : (d p : ℕ) (k : KeptNote) (ks : List KeptNote) (m : ℕ) → k.place ≡ p → m ≡ 1 → noted k ≡ note_upto d p (take m (k ∷ ks))
upto_only d p k ks m e q = rw q (go (k.place == p) (eq-eqb k.place p e))
  where
    go : (b : Bool) → b ≡ true → noted k ≡ (if b then noted k else blank k.deaths)
    go true z = refl
    go false z = absurd cc

pub upto_tail : (k : KeptNote) (ks : List KeptNote) (p m : ℕ) → IsUpto p (k ∷ ks) (suc m) → IsUpto p ks m
upto_tail k ks p m h = record {
  few = omega (arith, h.few);
  before = λ i d l. h.before (suc i) d (omega (arith, l));
  behind = λ i d l r. h.behind (suc i) d (omega (arith, l)) (omega (arith, r));
}

pub spread_at : (ks : List KeptNote) (d p n i m : ℕ) → AreWithin p (p + n) ks → i < n → IsUpto (p + i) ks m → slice_get (spread ks d p n) i ≡ Some (note_upto d (p + i) (take m ks))
spread_at ks d p zero i m h l u = absurd (omega (arith, l))
spread_at [] d p (suc n) zero m h l u = go m
  where
    go : (m : ℕ) → Some (blank d) ≡ Some (note_upto d (p + zero) (take m []))
    go zero = refl
    go (suc m) = refl
spread_at [] d p (suc n) (suc i) m h l u = spread_at [] d (suc p) n i m (omega arith) (omega (arith, l)) (record { few = u.few; before = λ j e z. absurd (omega (arith, z, u.few)); behind = λ j e a b. absurd (omega (arith, b)) }) ∙ ap (λ q. Some (note_upto d q (take m []))) (omega arith)
spread_at (k ∷ ks) d p (suc n) i m h l u = go (k.place == p) refl i m l u (λ j m. spread_at ks k.deaths (suc p) n j m) (λ j m. spread_at (k ∷ ks) d (suc p) n j m)
  where
    same : p + suc n ≡ suc p + n
    same = omega arith

    go : (b : Bool) → k.place == p ≡ b → (i m : ℕ) → i < suc n → IsUpto (p + i) (k ∷ ks) m
        → ((j m : ℕ) → AreWithin (suc p) (suc p + n) ks → j < n → IsUpto (suc p + j) ks m → slice_get (spread ks k.deaths (suc p) n) j ≡ Some (note_upto k.deaths (suc p + j) (take m ks)))
        → ((j m : ℕ) → AreWithin (suc p) (suc p + n) (k ∷ ks) → j < n → IsUpto (suc p + j) (k ∷ ks) m → slice_get (spread (k ∷ ks) d (suc p) n) j ≡ Some (note_upto d (suc p + j) (take m (k ∷ ks))))
        → slice_get (if b then noted k ∷ spread ks k.deaths (suc p) n else blank d ∷ spread (k ∷ ks) d (suc p) n) i ≡ Some (note_upto d (p + i) (take m (k ∷ ks)))
    go true e zero m l u r t = ap (λ x. Some x) (upto_only d (p + zero) k ks m (eqb-true k.place p e ∙ omega arith) (one ks m u h.2))
      where
        one : (ks : List KeptNote) (m : ℕ) → IsUpto (p + zero) (k ∷ ks) m → AreWithin (suc k.place) (p + suc n) ks → m ≡ 1
        one ks zero u w = absurd (omega (arith, u.behind 0 k (omega arith) (omega arith), eqb-true k.place p e))
        one [] (suc m) u w = omega (arith, u.few)
        one (x ∷ ks) (suc zero) u w = refl
        one (x ∷ ks) (suc (suc m)) u w = absurd (omega (arith, u.before 1 k (omega arith), w.0, eqb-true k.place p e))
    go true e (suc i) zero l u r t = absurd (omega (arith, u.behind 0 k (omega arith) (omega arith), eqb-true k.place p e))
    go true e (suc i) (suc m) l u r t =
        let q : p + suc i ≡ suc p + i = omega arith in
        r i m (subst (λ z. AreWithin (suc p) z ks) same (subst (λ z. AreWithin (suc z) (p + suc n) ks) (eqb-true k.place p e) h.2)) (omega (arith, l)) (subst (λ z. IsUpto z ks m) q (upto_tail k ks (p + suc i) m u))
        ∙ (ap (λ z. Some (note_upto k.deaths z (take m ks))) (sym q) ∙ ap (λ x. Some x) (sym (upto_next d (p + suc i) k (take m ks) (omega (arith, eqb-true k.place p e)))))
    go false e zero zero l u r t = refl
    go false e zero (suc m) l u r t = absurd (omega (arith, u.before 0 k (omega arith), h.0, eqb-false k.place p e))
    go false e (suc i) m l u r t =
        let q : p + suc i ≡ suc p + i = omega arith in
        t i m (omega (arith, h.0, eqb-false k.place p e), omega (arith, h.1), subst (λ z. AreWithin (suc k.place) z ks) same h.2) (omega (arith, l)) (subst (λ z. IsUpto z (k ∷ ks) m) q u)
        ∙ ap (λ z. Some (note_upto d z (take m (k ∷ ks)))) (sym q)

-- The last note

behind : (k l : KeptNote) (ks : List KeptNote) → slice_get (l ∷ ks) (length (l ∷ ks) - 1) ≡ slice_get (k ∷ l ∷ ks) (length (k ∷ l ∷ ks) - 1)
behind k l ks =
    let here : length (l ∷ ks) - 1 ≡ length ks = omega arith in
    let there : length (k ∷ l ∷ ks) - 1 ≡ suc (length ks) = omega arith in
    ap (slice_get (l ∷ ks)) here ∙ ap (slice_get (k ∷ l ∷ ks)) (sym there)

pub deaths_push : (d : ℕ) (ks : List KeptNote) (k : KeptNote) → k.deaths ≡ deaths_of d (ks ++ k ∷ [])
deaths_push d [] k = refl
deaths_push d (x ∷ ks) k = deaths_push x.deaths ks k

pub last_upto : (d p : ℕ) (ks : List KeptNote) (x : KeptNote) → slice_get ks (length ks - 1) ≡ Some x → note_upto d p ks ≡ (if x.place == p then noted x else blank x.deaths)
last_upto d p [] x h = absurd (none-some x h)
last_upto d p (k ∷ []) x h = ap (λ (y : KeptNote). if y.place == p then noted y else blank y.deaths) (same_Some k x h)
last_upto d p (k ∷ l ∷ ks) x h = last_upto k.deaths p (l ∷ ks) x (behind k l ks ∙ h)

-- Those of entries up to a place

within_from : (from to : ℕ) (ks : List KeptNote) → AreWithin from to ks → (i : ℕ) (d : KeptNote) → i < length ks → from ≤ (get_or ks i d).place
within_from from to [] h i d l = absurd (omega (arith, l))
within_from from to (k ∷ ks) h zero d l = h.0
within_from from to (k ∷ ks) h (suc i) d l = omega (arith, h.0, within_from (suc k.place) to ks h.2 i d (omega (arith, l)))

within_up : (from to : ℕ) (ks : List KeptNote) → AreWithin from to ks → (d : KeptNote) (i j : ℕ) → i ≤ j → j < length ks → (get_or ks i d).place ≤ (get_or ks j d).place
within_up from to [] h d i j l m = absurd (omega (arith, m))
within_up from to (k ∷ ks) h d zero zero l m = omega arith
within_up from to (k ∷ ks) h d zero (suc j) l m = omega (arith, within_from (suc k.place) to ks h.2 j d (omega (arith, m)))
within_up from to (k ∷ ks) h d (suc i) zero l m = absurd (omega (arith, l))
within_up from to (k ∷ ks) h d (suc i) (suc j) l m = within_up (suc k.place) to ks h.2 d i j (omega (arith, l)) (omega (arith, m))

pub parted : (to place : ℕ) (ks : List KeptNote) → AreWithin 0 to ks → IsPartitionedBy (λ k. nat_le k.place place) ks
parted to place ks h i j d l m up = le-leb (get_or ks i d).place place (omega (arith, within_up 0 to ks h d i j l m, leb-true (get_or ks j d).place place up))

pub upto_point : (place : ℕ) (ks : List KeptNote) (m : ℕ) → m ≤ length ks → IsPartitionPoint (λ k. nat_le k.place place ≡ true) (λ k. nat_le k.place place ≡ false) ks m → IsUpto place ks m
upto_point place ks m l p = record {
  few = l;
  before = λ i d h. leb-true (get_or ks i d).place place (p.0 i d (omega arith) h);
  behind = λ i d h r. leb-false (get_or ks i d).place place (p.1 i d h r);
}
