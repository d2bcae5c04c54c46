-- Slots in order of acceptance: where a number stands, and what still waits.
use Rattle.std.proofs.Common.{◌≡◌, ◌≢◌, ◌∙◌, ◌+◌, ◌<◌, ◌≤◌, ◌-◌, ◌==◌, ◌||◌, ℕ, zero, suc, List, [], ◌∷◌, ◌++◌, Bool, true, false, Result, Ok, Err, Option, Some, None, IfNone, IfSome, if◌then◌else◌, get_or, option_map, set, take, drop, filter, length, map, not, refl, sym, ap, subst, arith, inl, inr}
use Rattle.std.specs.List.Sorted.{IsSearchInRange, IsBinarySearchResult, IsNonDecreasingBy}
use Rattle.std.specs.Result.{result_ok}
use Rattle.std.specs.Ordering.{nat_cmp, ordering_index}
use Rattle.std.proofs.lemmas.Bool.{cases_lt}
use Rattle.std.proofs.lemmas.Bool.Decides.{nat_tests, eqb_tells}
use Rattle.std.proofs.lemmas.Cmp.{ranked}
use Rattle.std.proofs.lemmas.List.{append-nil, length-append, length-drop, map-append, take-append-drop, take_more}
use Rattle.std.proofs.Math.Seq.{take-length}
use Rattle.std.proofs.lemmas.List.Sorted.{IsNonDecreasingBy-from_default}
use Rattle.tr_model.specs.declared.rows.Waiting.{Waiting}
use Rattle.tr_model.specs.Journals.{AllAbove, IsSorted}
use Rattle.tr_model.specs.Moves.{instance_in, retargeted, without_instance}
use Rattle.tr_queues.specs.Choices.{waiting_in}
use Rattle.tr_queues.specs.declared.slots.Slot.{Slot}
use Rattle.tr_queues.specs.Queues.{AllBelow}
use Rattle.tr_queues.specs.Slots.{IsTrimmed, all_in, emptied, retargeted_slot, standing, without_picked}
use Rattle.tr_queues.proofs.LeftLines.{above_at}
use Rattle.tr_queues.proofs.Orders.{sorted_last}

-- the number at a place
abbrev pub number : Slot → ℕ
number s = s.waiting.instance.n

above_place : (n : ℕ) (ss : List Slot) (d : Slot) (j : ℕ) → j < length ss → AllAbove n (all_in ss) → n < number (get_or ss j d)
above_place n [] d j within h = absurd (omega (arith, within))
above_place n (s ∷ ss) d zero within h = h.0
above_place n (s ∷ ss) d (suc j) within h = above_place n ss d j (omega (arith, within)) h.1

pub rising : (ss : List Slot) (d : Slot) → IsSorted (all_in ss) → (i j : ℕ) → i < j → j < length ss → number (get_or ss i d) < number (get_or ss j d)
rising [] d h i j lt within = absurd (omega (arith, within))
rising (s ∷ ss) d h i zero lt within = absurd (omega (arith, lt))
rising (s ∷ ss) d h zero (suc j) lt within = above_place (number s) ss d j (omega (arith, within)) h.0
rising (s ∷ ss) d h (suc i) (suc j) lt within = rising ss d h.1 i j (omega (arith, lt)) (omega (arith, within))

absent : (ss : List Slot) (d : Slot) (n : ℕ) → ((j : ℕ) → j < length ss → number (get_or ss j d) ≢ n) → waiting_in (all_in ss) n ≡ None
absent [] d n h = refl
absent (s ∷ ss) d n h = elim (eqb_tells (number s) n) [
  | inl same ↦ absurd (h 0 (omega arith) same.1)
  | inr apart ↦ ap (λ b. if b then Some s.waiting else waiting_in (all_in ss) n) apart.0 ∙ absent ss d n (λ j within. h (suc j) (omega (arith, within)))
]

module _ (ss : List Slot) (sorted : IsSorted (all_in ss)) (n : ℕ) where
  rise : (d : Slot) → IsNonDecreasingBy (λ s. ordering_index (nat_cmp (number s) n)) ss
  rise d = IsNonDecreasingBy-from_default (λ s. ordering_index (nat_cmp (number s) n)) ss d (λ i j le within.
      let up : number (get_or ss i d) ≤ number (get_or ss j d) = elim (cases_lt i j) [ inl lt ↦ omega (arith, rising ss d sorted i j lt within) | inr ge ↦ let e : i ≡ j = omega (arith, le, ge) in let same : number (get_or ss i d) ≡ number (get_or ss j d) = ap (λ k. number (get_or ss k d)) e in omega (arith, same) ] in
      grind (arith, nat_tests, up))

  -- a binary search by number ends at the number, or where none is
  pub searched : (r : Result ℕ ℕ) → IsSearchInRange r (length ss) → IsBinarySearchResult (λ s. nat_cmp (number s) n) ss r → (d : Slot) → elim r as (λ _. Type 0) [ Ok i ↦ (i < length ss) × (number (get_or ss i d) ≡ n) | Err i ↦ waiting_in (all_in ss) n ≡ None ]
  searched (Ok i) within equal d = (within, ranked _ n _ (sym (equal d)))
  searched (Err i) within parted d = absent ss d n (λ j lt same. elim (cases_lt j i) [
    | inl before ↦ let less = ranked _ n _ (sym ((parted (rise d)).0 j d (omega arith) before)) in omega (arith, less, same)
    | inr after ↦ let more = ranked _ n _ (sym ((parted (rise d)).1 j d after lt)) in omega (arith, more, same)
  ])

-- the same, as `place_of` answers

pub place_found : (ss : List Slot) → IsSorted (all_in ss) → (n : ℕ) (r : Result ℕ ℕ) → IsSearchInRange r (length ss) → IsBinarySearchResult (λ s. nat_cmp (number s) n) ss r → IfSome (result_ok r) (λ i. (d : Slot) → number (get_or ss i d) ≡ n)
place_found ss sorted n (Ok i) within is = λ d. (searched ss sorted n (Ok i) within is d).1
place_found ss sorted n (Err i) within is = tt

pub place_none : (ss : List Slot) → IsSorted (all_in ss) → (n : ℕ) (r : Result ℕ ℕ) → IsSearchInRange r (length ss) → IsBinarySearchResult (λ s. nat_cmp (number s) n) ss r → IfNone (result_ok r) (waiting_in (all_in ss) n ≡ None)
place_none ss sorted n (Ok i) within is = tt
place_none [] sorted n (Err i) within is = refl
place_none (s ∷ ss) sorted n (Err i) within is = searched (s ∷ ss) sorted n (Err i) within is s

-- the instance with a number is that of what waits with it
pub instance_waiting : (ws : List Waiting) (n : ℕ) → instance_in ws n ≡ option_map (λ w. w.instance) (waiting_in ws n)
instance_waiting [] n = refl
instance_waiting (w ∷ ws) n = go (w.instance.n == n) (instance_waiting ws n)
  where
    go : (b : Bool) → instance_in ws n ≡ option_map (λ w. w.instance) (waiting_in ws n) → (if b then Some w.instance else instance_in ws n) ≡ option_map (λ w. w.instance) (if b then Some w else waiting_in ws n)
    go true h = refl
    go false h = h

-- none that has gone waits, and what waits stands there

none_here : (n m : ℕ) (x : Option Waiting) (w : Waiting) → (if m == n then Some w else x) ≡ None → x ≡ None
none_here n m x w h = go (m == n) h
  where
    go : (b : Bool) → (if b then Some w else x) ≡ None → x ≡ None
    go true h = cc
    go false h = h

none_first : (n m : ℕ) (x : Option Waiting) (w : Waiting) → (if m == n then Some w else x) ≡ None → (y : Option Waiting) → y ≡ None → (if m == n then Some w else y) ≡ None
none_first n m x w h y e = go (m == n) h
  where
    go : (b : Bool) → (if b then Some w else x) ≡ None → (if b then Some w else y) ≡ None
    go true h = cc
    go false h = e

pub none_standing : (ss : List Slot) (n : ℕ) → waiting_in (all_in ss) n ≡ None → waiting_in (standing ss) n ≡ None
none_standing [] n h = refl
none_standing (s ∷ ss) n h = go s.gone (none_standing ss n (none_here n (number s) _ s.waiting h))
  where
    go : (b : Bool) → waiting_in (standing ss) n ≡ None → waiting_in (if b then standing ss else s.waiting ∷ standing ss) n ≡ None
    go true rest = rest
    go false rest = none_first n (number s) _ s.waiting h _ rest

none_above : (ss : List Slot) (n : ℕ) → AllAbove n (all_in ss) → waiting_in (standing ss) n ≡ None
none_above [] n h = refl
none_above (s ∷ ss) n h = go s.gone (none_above ss n h.1)
  where
    go : (b : Bool) → waiting_in (standing ss) n ≡ None → waiting_in (if b then standing ss else s.waiting ∷ standing ss) n ≡ None
    go true rest = rest
    go false rest =
        let other : (number s == n) ≡ false = grind (arith, nat_tests, h.0) in
        ap (λ b. if b then Some s.waiting else waiting_in (standing ss) n) other ∙ rest

-- what waits at a place, given its number
pub at_place : (ss : List Slot) (d : Slot) (n i : ℕ) → IsSorted (all_in ss) → i < length ss → number (get_or ss i d) ≡ n → waiting_in (standing ss) n ≡ (if (get_or ss i d).gone then None else Some (get_or ss i d).waiting)
at_place [] d n i h within e = absurd (omega (arith, within))
at_place (s ∷ ss) d n zero h within e = go s.gone
  where
    same : (number s == n) ≡ true
    same = grind (arith, nat_tests, e)

    go : (b : Bool) → waiting_in (if b then standing ss else s.waiting ∷ standing ss) n ≡ (if b then None else Some s.waiting)
    go true = none_above ss n (subst (λ m. AllAbove m (all_in ss)) e h.0)
    go false = ap (λ b. if b then Some s.waiting else waiting_in (standing ss) n) same
at_place (s ∷ ss) d n (suc i) h within e = go s.gone ∙ at_place ss d n i h.1 (omega (arith, within)) e
  where
    other : (number s == n) ≡ false
    other = let less = above_place (number s) ss d i (omega (arith, within)) h.0 in grind (arith, nat_tests, less, e)

    go : (b : Bool) → waiting_in (if b then standing ss else s.waiting ∷ standing ss) n ≡ waiting_in (standing ss) n
    go true = refl
    go false = ap (λ b. if b then Some s.waiting else waiting_in (standing ss) n) other

-- what waits is in order too

above_standing : (n : ℕ) (ss : List Slot) → AllAbove n (all_in ss) → AllAbove n (standing ss)
above_standing n [] h = tt
above_standing n (s ∷ ss) h = elim s.gone as (λ b. AllAbove n (if b then standing ss else s.waiting ∷ standing ss)) [ true ↦ above_standing n ss h.1 | false ↦ (h.0, above_standing n ss h.1) ]

pub standing_sorted : (ss : List Slot) → IsSorted (all_in ss) → IsSorted (standing ss)
standing_sorted [] h = tt
standing_sorted (s ∷ ss) h = elim s.gone as (λ b. IsSorted (if b then standing ss else s.waiting ∷ standing ss)) [ true ↦ standing_sorted ss h.1 | false ↦ (above_standing (number s) ss h.0, standing_sorted ss h.1) ]

-- a slot is emptied

module _ (d : Slot) where
  waits_next : (ss : List Slot) (i : ℕ) → i < length ss → (get_or ss i d).gone ≡ false → standing ss ≡ standing (take i ss) ++ (get_or ss i d).waiting ∷ standing (drop (suc i) ss)
  waits_next [] i within e = absurd (omega (arith, within))
  waits_next (s ∷ ss) zero within e = ap (λ b. if b then standing ss else s.waiting ∷ standing ss) e
  waits_next (s ∷ ss) (suc i) within e = go s.gone (waits_next ss i (omega (arith, within)) e)
    where
      go : (b : Bool) → standing ss ≡ standing (take i ss) ++ (get_or ss i d).waiting ∷ standing (drop (suc i) ss) → (if b then standing ss else s.waiting ∷ standing ss) ≡ (if b then standing (take i ss) else s.waiting ∷ standing (take i ss)) ++ (get_or ss i d).waiting ∷ standing (drop (suc i) ss)
      go true h = h
      go false h = ap (λ vs. s.waiting ∷ vs) h

  pub waits_at : (ss : List Slot) (i : ℕ) → i < length ss → (get_or ss i d).gone ≡ false → standing ss ≡ standing (take i ss) ++ (get_or ss i d).waiting ∷ standing (drop (i + 1) ss)
  waits_at ss i within e = let o : suc i ≡ i + 1 = omega arith in waits_next ss i within e ∙ ap (λ k. standing (take i ss) ++ (get_or ss i d).waiting ∷ standing (drop k ss)) o

  emptied_next : (ss : List Slot) (i : ℕ) → i < length ss → standing (set ss i (emptied (get_or ss i d))) ≡ standing (take i ss) ++ standing (drop (suc i) ss)
  emptied_next [] i within = absurd (omega (arith, within))
  emptied_next (s ∷ ss) zero within = refl
  emptied_next (s ∷ ss) (suc i) within = go s.gone (emptied_next ss i (omega (arith, within)))
    where
      go : (b : Bool) → standing (set ss i (emptied (get_or ss i d))) ≡ standing (take i ss) ++ standing (drop (suc i) ss)
          → (if b then standing (set ss i (emptied (get_or ss i d))) else s.waiting ∷ standing (set ss i (emptied (get_or ss i d)))) ≡ (if b then standing (take i ss) else s.waiting ∷ standing (take i ss)) ++ standing (drop (suc i) ss)
      go true h = h
      go false h = ap (λ vs. s.waiting ∷ vs) h

  pub emptied_at : (ss : List Slot) (i : ℕ) → i < length ss → standing (set ss i (emptied (get_or ss i d))) ≡ standing (take i ss) ++ standing (drop (i + 1) ss)
  emptied_at ss i within = let o : suc i ≡ i + 1 = omega arith in emptied_next ss i within ∙ ap (λ k. standing (take i ss) ++ standing (drop k ss)) o

  pub all_at : (ss : List Slot) (i : ℕ) → i < length ss → all_in (set ss i (emptied (get_or ss i d))) ≡ all_in ss
  all_at [] i within = absurd (omega (arith, within))
  all_at (s ∷ ss) zero within = refl
  all_at (s ∷ ss) (suc i) within = ap (λ vs. s.waiting ∷ vs) (all_at ss i (omega (arith, within)))

-- an instance is taken out of the middle

pub without_mid : (A B : List Waiting) (w : Waiting) → IsSorted (A ++ w ∷ B) → without_instance w.instance.n (A ++ w ∷ B) ≡ A ++ B
without_mid [] B w h = let same : (w.instance.n == w.instance.n) ≡ true = grind (arith, nat_tests) in ap (λ b. if b then B else w ∷ without_instance w.instance.n B) same
without_mid (x ∷ A) B w h =
    let less : x.instance.n < w.instance.n = above_at x.instance.n A B w h.0 in
    let other : (x.instance.n == w.instance.n) ≡ false = grind (arith, nat_tests, less) in
    ap (λ b. if b then A ++ w ∷ B else x ∷ without_instance w.instance.n (A ++ w ∷ B)) other ∙ ap (λ vs. x ∷ vs) (without_mid A B w h.1)

pub without_other : (ws : List Waiting) (n : ℕ) → waiting_in ws n ≡ None → ws ≡ without_instance n ws
without_other [] n h = refl
without_other (w ∷ ws) n h = go (w.instance.n == n) h (without_other ws n)
  where
    go : (b : Bool) → (if b then Some w else waiting_in ws n) ≡ None → (waiting_in ws n ≡ None → ws ≡ without_instance n ws) → w ∷ ws ≡ (if b then ws else w ∷ without_instance n ws)
    go true h rest = cc
    go false h rest = ap (λ vs. w ∷ vs) (rest h)

-- what is dropped from the end has gone

pub standing_less : (d : Slot) (ss : List Slot) (m : ℕ) → length ss ≡ m + 1 → (get_or ss m d).gone ≡ true → standing (take m ss) ≡ standing ss
standing_less d [] m n e = absurd (omega (arith, n))
standing_less d (s ∷ []) zero n e = sym (ap (λ b. if b then [] else s.waiting ∷ []) e)
standing_less d (s ∷ t ∷ ss) zero n e = absurd (omega (arith, n))
standing_less d (s ∷ ss) (suc m) n e = go s.gone (standing_less d ss m (omega (arith, n)) e)
  where
    go : (b : Bool) → standing (take m ss) ≡ standing ss → (if b then standing (take m ss) else s.waiting ∷ standing (take m ss)) ≡ (if b then standing ss else s.waiting ∷ standing ss)
    go true h = h
    go false h = ap (λ vs. s.waiting ∷ vs) h

above_take : (n k : ℕ) (ss : List Slot) → AllAbove n (all_in ss) → AllAbove n (all_in (take k ss))
above_take n zero ss h = tt
above_take n (suc k) [] h = tt
above_take n (suc k) (s ∷ ss) h = (h.0, above_take n k ss h.1)

pub sorted_take : (k : ℕ) (ss : List Slot) → IsSorted (all_in ss) → IsSorted (all_in (take k ss))
sorted_take zero ss h = tt
sorted_take (suc k) [] h = tt
sorted_take (suc k) (s ∷ ss) h = (above_take (number s) k ss h.0, sorted_take k ss h.1)

-- a number above all that wait is above all there are, where the last one waits

below_last : (n : ℕ) (ss : List Slot) (s d : Slot) → IsSorted (all_in (s ∷ ss)) → (get_or (s ∷ ss) (length ss) d).gone ≡ false → AllBelow n (standing (s ∷ ss)) → AllBelow n (all_in (s ∷ ss))
below_last n [] s d sorted e h = subst (λ b. AllBelow n (if b then [] else s.waiting ∷ [])) e h
below_last n (t ∷ ss) s d sorted e h =
    let rest : AllBelow n (all_in (t ∷ ss)) = below_last n ss t d sorted.1 e (below_more s.gone h) in
    (omega (arith, sorted.0.0, rest.0), rest)
  where
    below_more : (b : Bool) → AllBelow n (if b then standing (t ∷ ss) else s.waiting ∷ standing (t ∷ ss)) → AllBelow n (standing (t ∷ ss))
    below_more true h = h
    below_more false h = h.1

pub below_all : (n : ℕ) (ss : List Slot) → IsSorted (all_in ss) → IsTrimmed ss → AllBelow n (standing ss) → AllBelow n (all_in ss)
below_all n [] sorted trimmed h = tt
below_all n (s ∷ ss) sorted trimmed h = below_last n ss s s sorted (ap (λ k. (get_or (s ∷ ss) k s).gone) (omega arith) ∙ trimmed s (omega arith)) h

pub standing_last : (ss : List Slot) (s : Slot) → s.gone ≡ false → standing (ss ++ s ∷ []) ≡ standing ss ++ s.waiting ∷ []
standing_last [] s e = ap (λ b. if b then [] else s.waiting ∷ []) e
standing_last (x ∷ ss) s e = go x.gone (standing_last ss s e)
  where
    go : (b : Bool) → standing (ss ++ s ∷ []) ≡ standing ss ++ s.waiting ∷ [] → (if b then standing (ss ++ s ∷ []) else x.waiting ∷ standing (ss ++ s ∷ [])) ≡ (if b then standing ss else x.waiting ∷ standing ss) ++ s.waiting ∷ []
    go true h = h
    go false h = ap (λ vs. x.waiting ∷ vs) h

pub standing_few : (ss : List Slot) → length (standing ss) ≤ length ss
standing_few [] = omega arith
standing_few (s ∷ ss) = go s.gone (standing_few ss)
  where
    go : (b : Bool) → length (standing ss) ≤ length ss → length (if b then standing ss else s.waiting ∷ standing ss) ≤ suc (length ss)
    go true h = omega (arith, h)
    go false h = omega (arith, h)

pub removed_at : (d : Slot) (ss : List Slot) (n i : ℕ) → IsSorted (all_in ss) → i < length ss → number (get_or ss i d) ≡ n → (get_or ss i d).gone ≡ false → standing (set ss i (emptied (get_or ss i d))) ≡ without_instance n (standing ss)
removed_at d ss n i sorted within e waits =
    let A = standing (take i ss) in
    let B = standing (drop (i + 1) ss) in
    let split = waits_at d ss i within waits in
    emptied_at d ss i within
    ∙ (sym (without_mid A B (get_or ss i d).waiting (subst IsSorted split (standing_sorted ss sorted)))
    ∙ (ap (λ m. without_instance m (A ++ (get_or ss i d).waiting ∷ B)) e ∙ sym (ap (without_instance n) split)))

-- a slice to the end
pub tail_is : (xs : List Slot) (k : ℕ) → take (length xs - k) (drop k xs) ≡ drop k xs
tail_is xs k = ap (λ n. take n (drop k xs)) (sym (length-drop k xs)) ∙ take-length (drop k xs)

pub same_default : (ss : List Slot) (i : ℕ) (d e : Slot) → i < length ss → get_or ss i d ≡ get_or ss i e
same_default [] i d e within = absurd (omega (arith, within))
same_default (s ∷ ss) zero d e within = refl
same_default (s ∷ ss) (suc i) d e within = same_default ss i d e (omega (arith, within))

pub sorted_more : (ss : List Slot) (s : Slot) → IsSorted (all_in ss) → AllBelow (number s) (all_in ss) → IsSorted (all_in (ss ++ s ∷ []))
sorted_more ss s h k = subst IsSorted (sym (map-append (λ (t : Slot). t.waiting) ss (s ∷ []))) (sorted_last (all_in ss) s.waiting h k)

-- the first places, and the rest

standing-append : (ss ts : List Slot) → standing (ss ++ ts) ≡ standing ss ++ standing ts
standing-append [] ts = refl
standing-append (s ∷ ss) ts = go s.gone (standing-append ss ts)
  where
    go : (b : Bool) → standing (ss ++ ts) ≡ standing ss ++ standing ts → (if b then standing (ss ++ ts) else s.waiting ∷ standing (ss ++ ts)) ≡ (if b then standing ss else s.waiting ∷ standing ss) ++ standing ts
    go true h = h
    go false h = ap (λ vs. s.waiting ∷ vs) h

pub taken_few : (i : ℕ) (ss : List Slot) → length (standing (take i ss)) ≤ length (standing ss)
taken_few i ss =
    let n = ap (λ (xs : List Slot). length (standing xs)) (take-append-drop i ss) in
    let m = ap (λ (vs : List Waiting). length vs) (standing-append (take i ss) (drop i ss)) in
    let k = length-append (standing (take i ss)) (standing (drop i ss)) in
    omega (arith, n, m, k)

pub taken_waits : (ss : List Slot) (i : ℕ) (d : Slot) → i < length ss → (get_or ss i d).gone ≡ false → standing (take (i + 1) ss) ≡ standing (take i ss) ++ (get_or ss i d).waiting ∷ []
taken_waits ss i d within e = ap standing (take_more ss i d within) ∙ standing_last (take i ss) (get_or ss i d) e

pub taken_gone : (ss : List Slot) (i : ℕ) (d : Slot) → i < length ss → (get_or ss i d).gone ≡ true → standing (take (i + 1) ss) ≡ standing (take i ss)
taken_gone ss i d within e =
    ap standing (take_more ss i d within) ∙ (standing-append (take i ss) (get_or ss i d ∷ [])
    ∙ (ap (λ b. standing (take i ss) ++ (if b then [] else (get_or ss i d).waiting ∷ [])) e ∙ append-nil (standing (take i ss))))

-- slots are dropped, changed and picked

pub standing_closed : (ss : List Slot) → standing (filter (λ s. not s.gone) ss) ≡ standing ss
standing_closed [] = refl
standing_closed (s ∷ ss) = go s.gone refl (standing_closed ss)
  where
    R : List Slot
    R = filter (λ t. not t.gone) ss

    go : (b : Bool) → s.gone ≡ b → standing R ≡ standing ss → standing (if not b then s ∷ R else R) ≡ (if b then standing ss else s.waiting ∷ standing ss)
    go true e h = h
    go false e h = ap (λ b. if b then standing R else s.waiting ∷ standing R) e ∙ ap (λ vs. s.waiting ∷ vs) h

above_closed : (p : Slot → Bool) (n : ℕ) (ss : List Slot) → AllAbove n (all_in ss) → AllAbove n (all_in (filter p ss))
above_closed p n [] h = tt
above_closed p n (s ∷ ss) h = elim (p s) as (λ b. AllAbove n (all_in (if b then s ∷ filter p ss else filter p ss))) [ true ↦ (h.0, above_closed p n ss h.1) | false ↦ above_closed p n ss h.1 ]

pub sorted_closed : (p : Slot → Bool) (ss : List Slot) → IsSorted (all_in ss) → IsSorted (all_in (filter p ss))
sorted_closed p [] h = tt
sorted_closed p (s ∷ ss) h = elim (p s) as (λ b. IsSorted (all_in (if b then s ∷ filter p ss else filter p ss))) [ true ↦ (above_closed p (number s) ss h.0, sorted_closed p ss h.1) | false ↦ sorted_closed p ss h.1 ]

pub standing_retargeted : (from to : ℕ) (ss : List Slot) → standing (map (retargeted_slot from to) ss) ≡ map (retargeted from to) (standing ss)
standing_retargeted from to [] = refl
standing_retargeted from to (s ∷ ss) = go s.gone (standing_retargeted from to ss)
  where
    go : (b : Bool) → standing (map (retargeted_slot from to) ss) ≡ map (retargeted from to) (standing ss) → (if b then standing (map (retargeted_slot from to) ss) else retargeted from to s.waiting ∷ standing (map (retargeted_slot from to) ss)) ≡ map (retargeted from to) (if b then standing ss else s.waiting ∷ standing ss)
    go true h = h
    go false h = ap (λ vs. retargeted from to s.waiting ∷ vs) h

above_retargeted : (from to n : ℕ) (ss : List Slot) → AllAbove n (all_in ss) → AllAbove n (all_in (map (retargeted_slot from to) ss))
above_retargeted from to n [] h = tt
above_retargeted from to n (s ∷ ss) h = (h.0, above_retargeted from to n ss h.1)

pub sorted_aimed : (from to : ℕ) (ss : List Slot) → IsSorted (all_in ss) → IsSorted (all_in (map (retargeted_slot from to) ss))
sorted_aimed from to [] h = tt
sorted_aimed from to (s ∷ ss) h = (above_retargeted from to (number s) ss h.0, sorted_aimed from to ss h.1)

pub standing_picked : (p : Waiting → Bool) (ss : List Slot) → standing (map (without_picked p) ss) ≡ filter (λ w. not (p w)) (standing ss)
standing_picked p [] = refl
standing_picked p (s ∷ ss) = go s.gone (p s.waiting) refl (standing_picked p ss)
  where
    R : List Waiting
    R = standing (map (without_picked p) ss)

    F : List Waiting
    F = filter (λ w. not (p w)) (standing ss)

    go : (b c : Bool) → p s.waiting ≡ c → R ≡ F → (if b || c then R else s.waiting ∷ R) ≡ filter (λ w. not (p w)) (if b then standing ss else s.waiting ∷ standing ss)
    go true c e h = h
    go false true e h = h ∙ sym (ap (λ d. if not d then s.waiting ∷ F else F) e)
    go false false e h = ap (λ vs. s.waiting ∷ vs) h ∙ sym (ap (λ d. if not d then s.waiting ∷ F else F) e)

pub picked_gone : (p : Waiting → Bool) (s : Slot) → s.gone ≡ true → without_picked p s ≡ s
picked_gone p s e = ap (λ b. record s { gone = b || p s.waiting }) e ∙ sym (ap (λ b. record s { gone = b }) e)

pub picked_not : (p : Waiting → Bool) (s : Slot) → s.gone ≡ false → p s.waiting ≡ false → without_picked p s ≡ s
picked_not p s e f = ap (λ b. record s { gone = b || p s.waiting }) e ∙ (ap (λ b. record s { gone = b }) f ∙ sym (ap (λ b. record s { gone = b }) e))

pub picked_is : (p : Waiting → Bool) (s : Slot) → s.gone ≡ false → p s.waiting ≡ true → without_picked p s ≡ emptied s
picked_is p s e f = ap (λ b. record s { gone = b || p s.waiting }) e ∙ ap (λ b. record s { gone = b }) f

-- a loop over all of them has ended
pub mapped_all : (f : Slot → Slot) (old now : List Slot) (i : ℕ) → length old ≤ i → now ≡ map f (take i old) ++ drop i old → now ≡ map f old
mapped_all f old now i all h = h ∙ go old i all
  where
    go : (xs : List Slot) (i : ℕ) → length xs ≤ i → map f (take i xs) ++ drop i xs ≡ map f xs
    go [] zero all = refl
    go [] (suc i) all = refl
    go (x ∷ xs) zero all = absurd (omega (arith, all))
    go (x ∷ xs) (suc i) all = ap (λ ys. f x ∷ ys) (go xs i (omega (arith, all)))
