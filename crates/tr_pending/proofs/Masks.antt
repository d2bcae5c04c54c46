-- The set of the signals that wait, kept through each change, and the first instance of a signal.
use Rattle.std.proofs.Common.{◌≡◌, ◌≢◌, ℕ, zero, suc, ◌<◌, ◌≤◌, Bool, true, false, if◌then◌else◌, not, ◌&&◌, ◌||◌, ◌==◌, List, [], ◌∷◌, Some, None, refl, sym, ap, ◌∙◌, arith, get_or, length, slice_get, nat_lt, inl, inr}
use Rattle.std.specs.List.{list_any, position, remove}
use Rattle.std.proofs.lemmas.List.Quantifiers.{position-Some}
use Rattle.std.proofs.lemmas.List.Sums.{position_or_len_is}
use Rattle.std.proofs.lemmas.Bool.Decides.{nat_tests}
use Rattle.std.proofs.lemmas.Bool.{cases_lt, cases_eq, eqb-true, lt-ltb, or_right}
use Rattle.std.proofs.lemmas.Option.{none-some}
use Rattle.tr_sigset.specs.Sets.{has}
use Rattle.tr_sigset.specs.declared.sets.SigSet.{SigSet}
use Rattle.tr_pending.specs.Waiting.{is_waiting, IsMask, first_of, place_of, kept_by}
use Rattle.tr_pending.specs.declared.instance.Instance.{Instance}

-- tests

-- a number that equals s is no other number
no_other : (a s n : ℕ) → (a == s) ≡ true → n ≢ s → (a == n) ≡ false
no_other a s n e ne = grind (arith, nat_tests)

taken_out : (b : Bool) (n s : ℕ) → n ≡ s → (b && not (n == s)) ≡ false
taken_out true n s e = grind (arith, nat_tests)
taken_out false n s e = refl

left_in : (b : Bool) (n s : ℕ) → n ≢ s → (b && not (n == s)) ≡ b
left_in true n s ne = grind (arith, nat_tests)
left_in false n s ne = refl

-- a queue from which the instance at k is removed

any-remove : (p : Instance → Bool) (q : List Instance) (k : ℕ) (d : Instance) → k < length q → p (get_or q k d) ≡ false → list_any p (remove q k) ≡ list_any p q
any-remove p [] k d within e = absurd (omega arith)
any-remove p (x ∷ q) zero d within e = sym (ap (λ b. b || list_any p q) e)
any-remove p (x ∷ q) (suc k) d within e = ap (λ b. p x || b) (any-remove p q k d (omega arith) e)

any_by_index : (p : Instance → Bool) (q : List Instance) (k : ℕ) (d : Instance) → k < length q → p (get_or q k d) ≡ true → list_any p q ≡ true
any_by_index p [] k d within e = absurd (omega arith)
any_by_index p (x ∷ q) zero d within e = ap (λ b. b || list_any p q) e
any_by_index p (x ∷ q) (suc k) d within e = or_right (p x) (list_any p q) (any_by_index p q k d (omega arith) e)

slice_get_is : (q : List Instance) (k : ℕ) (x : Instance) → k < length q → x ≡ get_or q k x → Some x ≡ slice_get q k
slice_get_is [] k x within e = absurd (omega arith)
slice_get_is (y ∷ q) zero x within e = ap (λ v. Some v) e
slice_get_is (y ∷ q) (suc k) x within e = slice_get_is q k x (omega arith) e

slice_get_past : (q : List Instance) (k : ℕ) → length q ≤ k → None ≡ slice_get q k
slice_get_past [] k past = refl
slice_get_past (y ∷ q) zero past = absurd (omega arith)
slice_get_past (y ∷ q) (suc k) past = slice_get_past q k (omega arith)

-- the first instance of signal s stands at k
module _ (s : ℕ) (q : List Instance) (k : ℕ) (d : Instance) (found : position (λ i. i.sig == s) q ≡ Some k) where
  at_k : (k < length q) × ((get_or q k d).sig == s ≡ true) × ((j : ℕ) → j < k → (get_or q j d).sig == s ≡ false)
  at_k = position-Some (λ i. i.sig == s) q k d found

  place : place_of s q ≡ k
  place = position_or_len_is (λ i. i.sig == s) q k d (let within = at_k.0 in omega arith) at_k.2 (λ _. at_k.1)

  pub first_is : (x : Instance) → x ≡ get_or q k x → Some x ≡ first_of s q
  first_is x e = slice_get_is q k x at_k.0 e ∙ ap (slice_get q) (sym place)

  others : (n : ℕ) → n ≢ s → is_waiting n (remove q k) ≡ is_waiting n q
  others n ne = any-remove (λ i. i.sig == n) q k d at_k.0 (let e = at_k.1 in no_other (get_or q k d).sig s n e ne)

  waited : is_waiting s q ≡ true
  waited = any_by_index (λ i. i.sig == s) q k d at_k.0 at_k.1

  pub still_waits : (mask : SigSet) → IsMask mask q → is_waiting s (remove q k) ≡ true → IsMask mask (remove q k)
  still_waits mask is waits n =
      elim (cases_eq n s) [
        | inl e ↦ is n ∙ ap (λ v. is_waiting v q) e ∙ waited ∙ sym waits ∙ ap (λ v. is_waiting v (remove q k)) (sym e)
        | inr ne ↦ is n ∙ sym (others n ne)
      ]

  pub waits_no_more : (mask after : SigSet) → IsMask mask q → is_waiting s (remove q k) ≡ false → ((n : ℕ) → has after n ≡ (has mask n && not (n == s))) → IsMask after (remove q k)
  waits_no_more mask after is none taken n =
      elim (cases_eq n s) [
        | inl e ↦ taken n ∙ taken_out (has mask n) n s e ∙ sym none ∙ ap (λ v. is_waiting v (remove q k)) (sym e)
        | inr ne ↦ taken n ∙ left_in (has mask n) n s ne ∙ is n ∙ sym (others n ne)
      ]

-- no instance of signal s

past_end : (k n : ℕ) → (if nat_lt k n then Some k else None) ≡ None → n ≤ k
past_end k n e = elim (cases_lt k n) [ inl l ↦ absurd (none-some k (sym e ∙ ap (λ b. if b then Some k else None) (lt-ltb k n l))) | inr g ↦ g ]

pub first_none : (s : ℕ) (q : List Instance) → position (λ i. i.sig == s) q ≡ None → None ≡ first_of s q
first_none s q e = slice_get_past q (place_of s q) (past_end (place_of s q) (length q) e)

-- a queue of which those in a set are flushed

-- one instance more: whether it is of the signal, whether the set has its signal and the signal, whether a later one is
-- of the signal, and whether a later one that is kept is
kept_step : (here set_here set_n later kept : Bool) → (here ≡ true → set_here ≡ set_n) → (later && not set_n) ≡ kept → ((here || later) && not set_n) ≡ (if not set_here then here || kept else kept)
kept_step false true set_n later kept same rest = rest
kept_step false false set_n later kept same rest = rest
kept_step true true true true kept same rest = rest
kept_step true true true false kept same rest = rest
kept_step true true false later kept same rest = let e = same refl in cc
kept_step true false true later kept same rest = let e = same refl in cc
kept_step true false false later kept same rest = refl

is_waiting-if : (b : Bool) (n : ℕ) (x : Instance) (q : List Instance) → is_waiting n (if b then x ∷ q else q) ≡ (if b then is_waiting n (x ∷ q) else is_waiting n q)
is_waiting-if true n x q = refl
is_waiting-if false n x q = refl

is_waiting-kept : (set : SigSet) (n : ℕ) (q : List Instance) → (is_waiting n q && not (has set n)) ≡ is_waiting n (kept_by set q)
is_waiting-kept set n [] = refl
is_waiting-kept set n (x ∷ q) =
    kept_step (x.sig == n) (has set x.sig) (has set n) (is_waiting n q) _ (λ e. ap (has set) (eqb-true x.sig n e)) (is_waiting-kept set n q)
    ∙ sym (is_waiting-if (not (has set x.sig)) n x (kept_by set q))

pub kept_mask : (set mask after : SigSet) (q : List Instance) → IsMask mask q → ((n : ℕ) → has after n ≡ (has mask n && not (has set n))) → IsMask after (kept_by set q)
kept_mask set mask after q is taken n = taken n ∙ ap (λ b. b && not (has set n)) (is n) ∙ is_waiting-kept set n q
