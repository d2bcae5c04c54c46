-- The best instance is the first of the least signal that waits and isn't blocked.
use Rattle.std.proofs.Common.{◌≡◌, ◌≢◌, ℕ, suc, ◌+◌, ◌<◌, ◌≤◌, Bool, true, false, if◌then◌else◌, not, ◌&&◌, ◌||◌, ◌==◌, nat_le, List, [], ◌∷◌, Option, Some, None, refl, sym, ap, ◌∙◌, arith, slice_get, inl, inr, subst}
use Rattle.std.proofs.lemmas.Bool.{cases_lt, eq-eqb, false≢true, or_left, or_right, true≢false}
use Rattle.std.proofs.lemmas.Bool.Decides.{nat_tests, eqb_tells}
use Rattle.std.proofs.lemmas.Option.{same_Some}
use Rattle.tr_sigset.specs.Sets.{has}
use Rattle.tr_sigset.specs.declared.sets.SigSet.{SigSet}
use Rattle.tr_pending.specs.Waiting.{best_of, first_of, is_waiting, IsMask, place_of, preferred_of}
use Rattle.tr_pending.specs.declared.instance.Instance.{Instance}

-- tests and options

both : (a b : Bool) → (a && not b) ≡ true → (a ≡ true) × (b ≡ false)
both true true h = absurd (false≢true h)
both true false h = (refl, refl)
both false b h = absurd (false≢true h)

second : (a b : Bool) → (a && not b) ≡ false → a ≡ true → b ≡ true
second true true h e = refl
second true false h e = absurd (true≢false h)
second false b h e = absurd (false≢true e)

-- a queue with one more in front

waits_here : (x : Instance) (q : List Instance) → is_waiting x.sig (x ∷ q) ≡ true
waits_here x q = or_left (x.sig == x.sig) (is_waiting x.sig q) (eq-eqb x.sig x.sig refl)

waits_later : (x : Instance) (q : List Instance) (n : ℕ) → is_waiting n q ≡ true → is_waiting n (x ∷ q) ≡ true
waits_later x q n waits = or_right (x.sig == n) (is_waiting n q) waits

first_wins : (x : Instance) (m : Option Instance) → ((k : Instance) → m ≡ Some k → x.sig ≤ k.sig) → preferred_of x m ≡ x
first_wins x None least = refl
first_wins x (Some k) least = let le = least k refl in grind (arith, nat_tests)

later_wins : (x j : Instance) → j.sig < x.sig → preferred_of x (Some j) ≡ j
later_wins x j lt = grind (arith, nat_tests)

module _ (blocked : SigSet) where
  -- of the best of the queue with x in front, by whether x is blocked
  abbrev best_with : Bool → Instance → Option Instance → Option Instance
  best_with b x m = if b then m else Some (preferred_of x m)

  -- an instance whose signal waits and isn't blocked
  record IsReady (j : Instance) (q : List Instance) : Type 0 where
    waits : is_waiting j.sig q ≡ true
    unblocked : has blocked j.sig ≡ false

  later : (x j : Instance) (q : List Instance) → IsReady j q → IsReady j (x ∷ q)
  later x j q r = record { waits = waits_later x q j.sig r.waits; unblocked = r.unblocked }

  here : (x j : Instance) (q : List Instance) → x ≡ j → has blocked x.sig ≡ false → IsReady j (x ∷ q)
  here x j q e b = subst (λ i. IsReady i (x ∷ q)) e (record { waits = waits_here x q; unblocked = b })

  ready_choice : (t : Bool) (x k j : Instance) (q : List Instance) → (if t then x else k) ≡ j → has blocked x.sig ≡ false → IsReady k q → IsReady j (x ∷ q)
  ready_choice true x k j q e b r = here x j q e b
  ready_choice false x k j q e b r = later x j q (subst (λ i. IsReady i q) e r)

  ready_step : (b : Bool) (m : Option Instance) (x j : Instance) (q : List Instance) → has blocked x.sig ≡ b → best_with b x m ≡ Some j → ((k : Instance) → m ≡ Some k → IsReady k q) → IsReady j (x ∷ q)
  ready_step true m x j q e best rest = later x j q (rest j best)
  ready_step false None x j q e best rest = here x j q (same_Some x j best) e
  ready_step false (Some k) x j q e best rest = ready_choice (nat_le x.sig k.sig) x k j q (same_Some _ j best) e (rest k refl)

  best_ready : (q : List Instance) (j : Instance) → best_of blocked q ≡ Some j → IsReady j q
  best_ready [] j best = cc
  best_ready (x ∷ q) j best = ready_step (has blocked x.sig) (best_of blocked q) x j q refl best (best_ready q)

  none_step : (b : Bool) (x : Instance) (q : List Instance) → has blocked x.sig ≡ b → ((n : ℕ) → is_waiting n (x ∷ q) ≡ true → has blocked n ≡ true) → best_of blocked q ≡ None → best_with b x (best_of blocked q) ≡ None
  none_step true x q e all_blocked rest = rest
  none_step false x q e all_blocked rest = absurd (true≢false (sym (all_blocked x.sig (waits_here x q)) ∙ e))

  best_none : (q : List Instance) → ((n : ℕ) → is_waiting n q ≡ true → has blocked n ≡ true) → best_of blocked q ≡ None
  best_none [] all_blocked = refl
  best_none (x ∷ q) all_blocked = none_step (has blocked x.sig) x q refl all_blocked (best_none q (λ n w. all_blocked n (waits_later x q n w)))

  -- signal `least` waits and isn't blocked, and all that wait below it are blocked
  module _ (least : ℕ) (unblocked : has blocked least ≡ false) where
    record IsBest (q : List Instance) : Type 0 where
      j : Instance
      best : best_of blocked q ≡ Some j
      first : first_of least q ≡ Some j
      number : j.sig ≡ least

    abbrev NoneBelow : List Instance → Type 0
    NoneBelow q = (n : ℕ) → n < least → is_waiting n q ≡ true → has blocked n ≡ true

    at_least : (q : List Instance) → NoneBelow q → (k : Instance) → IsReady k q → least ≤ k.sig
    at_least q low k r = elim (cases_lt k.sig least) [ inl l ↦ absurd (true≢false (sym (low k.sig l r.waits) ∙ r.unblocked)) | inr g ↦ g ]

    other_step : (b : Bool) (x j : Instance) (q : List Instance) → has blocked x.sig ≡ b → NoneBelow (x ∷ q) → x.sig ≢ least → best_of blocked q ≡ Some j → j.sig ≡ least → best_with b x (best_of blocked q) ≡ Some j
    other_step true x j q e low ne best number = best
    other_step false x j q e low ne best number =
        let above : least ≤ x.sig = at_least (x ∷ q) low x (record { waits = waits_here x q; unblocked = e }) in
        let lt : j.sig < x.sig = omega (arith, ne) in
        ap (λ m. Some (preferred_of x m)) best ∙ ap (λ v. Some v) (later_wins x j lt)

    best_first : (q : List Instance) → is_waiting least q ≡ true → NoneBelow q → IsBest q
    best_first [] waits low = cc
    best_first (x ∷ q) waits low =
        elim (eqb_tells x.sig least) [
          | inl same ↦
              let e : has blocked x.sig ≡ false = ap (has blocked) same.1 ∙ unblocked in
              record {
                j = x;
                best = ap (λ b. best_with b x (best_of blocked q)) e
                    ∙ ap (λ v. Some v) (first_wins x (best_of blocked q) (λ k m. subst (λ n. n ≤ k.sig) (sym same.1) (at_least (x ∷ q) low k (later x k q (best_ready q k m)))));
                first = ap (λ b. slice_get (x ∷ q) (if not b then 1 + place_of least q else 0)) same.0;
                number = same.1;
              }
          | inr apart ↦
              let rest = best_first q (sym (ap (λ b. b || is_waiting least q) apart.0) ∙ waits) (λ n l w. low n l (waits_later x q n w)) in
              record {
                j = rest.j;
                best = other_step (has blocked x.sig) x rest.j q refl low apart.1 rest.best rest.number;
                first = ap (λ b. slice_get (x ∷ q) (if not b then 1 + place_of least q else 0)) apart.0
                    ∙ ap (slice_get (x ∷ q)) (let o : 1 + place_of least q ≡ suc (place_of least q) = omega arith in o)
                    ∙ rest.first;
                number = rest.number;
              }
        ]

    first-best : (q : List Instance) → is_waiting least q ≡ true → NoneBelow q → first_of least q ≡ best_of blocked q
    first-best q waits low = let b = best_first q waits low in b.first ∙ sym b.best

-- the same by sets: `ready` has the signals that wait and aren't blocked
module _ (blocked mask ready : SigSet) (q : List Instance) (is : IsMask mask q) (taken : (n : ℕ) → has ready n ≡ (has mask n && not (has blocked n))) where
  pub first_ready : (s : ℕ) → has ready s ≡ true → ((n : ℕ) → n < s → has ready n ≡ false) → first_of s q ≡ best_of blocked q
  first_ready s here low =
      let two = both (has mask s) (has blocked s) (sym (taken s) ∙ here) in
      first-best blocked s two.1 q (sym (is s) ∙ two.0) (λ n l w. second (has mask n) (has blocked n) (sym (taken n) ∙ low n l) (is n ∙ w))

  pub none_ready : ((n : ℕ) → has ready n ≡ false) → None ≡ best_of blocked q
  none_ready none = sym (best_none blocked q (λ n w. second (has mask n) (has blocked n) (sym (taken n) ∙ none n) (is n ∙ w)))
