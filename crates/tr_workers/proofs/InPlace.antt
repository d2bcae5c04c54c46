-- Receipts in order that are as many as the journal's entries are those of all entries: those of one worker are at most the
-- entries of its actor, and the entries of different actors at most the journal's.
use Rattle.std.proofs.Common.{◌≡◌, ℕ, ◌+◌, ◌-◌, ◌<◌, ◌≤◌, ◌==◌, ◌⊎◌, arith, Bool, true, false, not, List, [], ◌∷◌, length, map, refl, sym, subst, ap, ◌∙◌, inl, inr, Some, suc, eq-eqb}
use Rattle.std.specs.Prelude.{◌↔◌, MatchOption, cond, if◌then◌else◌, slice_get}
use Rattle.std.specs.List.{All, filter, list_all, list_any}
use Rattle.std.proofs.lemmas.Bool.{and_parts, cases_Bool, cases_eq, eqb-true, ne_eqb, not-true}
use Rattle.std.proofs.lemmas.List.Elements.{All-cons, All-head, All-nil, All-tail}
use Rattle.std.proofs.lemmas.List.Sums.{count_by-le-length, length-filter}
use Rattle.tr_model.specs.Entries.{Entry}
use Rattle.tr_model.specs.declared.replies.Reply.{Reply}
use Rattle.tr_starts.specs.Starts.{no_repeat}
use Rattle.tr_index.proofs.Mapped.{any_mapped}
use Rattle.tr_kernel.specs.States.{State}
use Rattle.tr_kernel.specs.declared.answers.Receipt.{Receipt}
use Rattle.tr_workers.specs.declared.receipts.Receipts.{Receipts}
use Rattle.tr_workers.specs.Settled.{entries_of, has_worker, IsReceiptOf, Match, Placed}
use Rattle.tr_workers.specs.Private.{AreInOrder, AreInPlace, IsInPlace, IsOfActor}

match_length : {X Y : Type 0} (R : X → Y → Type 0) (xs : List X) (ys : List Y) → Match R xs ys → length xs ≡ length ys
match_length R [] [] m = refl
match_length R [] (y ∷ ys) m = absurd m
match_length R (x ∷ xs) [] m = absurd m
match_length R (x ∷ xs) (y ∷ ys) m = ap suc (match_length R xs ys m.1)

-- One worker

-- the receipts are of all these entries, or of fewer
abbrev OfAllOrFewer : List Placed → List Receipt → Type 0
OfAllOrFewer ps rs = Match IsReceiptOf ps rs ⊎ (length rs < length ps)

-- no receipt is of this entry
passed_over : (b : Bool) (p : Placed) (ps : List Placed) (rs : List Receipt)
    → OfAllOrFewer ps rs → OfAllOrFewer (if b then p ∷ ps else ps) rs
passed_over true p ps rs (inl m) = inr (omega (arith, match_length IsReceiptOf ps rs m))
passed_over true p ps rs (inr fewer) = inr (omega arith)
passed_over false p ps rs h = h

-- these are the journal's entries behind the first so many
abbrev AreBehind : State → ℕ → List Entry → Type 0
AreBehind k before es = (n i : ℕ) → n ≡ before + i → slice_get k.journal n ≡ slice_get es i

behind_none : (k : State) → AreBehind k 0 k.journal
behind_none k n i at = ap (slice_get k.journal) (omega arith)

behind_one_more : (k : State) (before : ℕ) (e : Entry) (es : List Entry) → AreBehind k before (e ∷ es) → AreBehind k (before + 1) es
behind_one_more k before e es b n i at = b n (suc i) (omega arith)

module _ (k : State) (actor : ℕ) where
  abbrev placed : ℕ → List Entry → List Placed
  placed before es = entries_of actor k.replies before es

  -- a receipt is of the entry that stands there behind the first so many
  of_entry : (before : ℕ) (es : List Entry) (r : Receipt) (n i : ℕ) → AreBehind k before es → n ≡ before + i → r.position ≡ n + 1
      → IsOfActor k actor r
      → MatchOption (slice_get es i) ⊥ (λ e. (e.actor ≡ actor) × (e.event ≡ r.event) × (slice_get k.replies n ≡ Some r.reply))
  of_entry before es r n i b at position h =
      let index : r.position - 1 ≡ n = omega arith in
      let there = rw index at h in
      rw (b n i at) at there

  all_or_fewer : (before : ℕ) (es : List Entry) (rs : List Receipt) → AreBehind k before es → AreInOrder k actor before rs
      → OfAllOrFewer (placed before es) rs
  all_or_fewer before [] [] b h = inl tt
  all_or_fewer before [] (r ∷ rs) b h =
      let n = r.position - 1 in
      absurd (of_entry before [] r n (n - before) b (omega (arith, h.0)) (omega (arith, h.0)) h.1)
  all_or_fewer before (e ∷ es) [] b h =
      let rest = all_or_fewer (before + 1) es [] (behind_one_more k before e es b) tt in
      passed_over (e.actor == actor) _ (placed (before + 1) es) [] rest
  all_or_fewer before (e ∷ es) (r ∷ rs) b h = elim (cases_eq r.position (before + 1)) [
    | inl here ↦ (
        let is = of_entry before (e ∷ es) r before 0 b (omega arith) here h.1 in
        let order = subst (λ n. AreInOrder k actor n rs) here h.2 in
        rw (eq-eqb e.actor actor is.0) (elim (all_or_fewer (before + 1) es rs (behind_one_more k before e es b) order) [
          | inl m ↦ inl (record { position = sym here; event = is.1; reply = is.2 }, m)
          | inr fewer ↦ inr (omega arith)
        ]))
    | inr later ↦ (
        let order : AreInOrder k actor (before + 1) (r ∷ rs) = (omega (arith, h.0), h.1, h.2) in
        let rest = all_or_fewer (before + 1) es (r ∷ rs) (behind_one_more k before e es b) order in
        passed_over (e.actor == actor) _ (placed (before + 1) es) (r ∷ rs) rest)
  ]

  behind_fewer : (before : ℕ) (rs : List Receipt) → AreInOrder k actor (before + 1) rs → AreInOrder k actor before rs
  behind_fewer before [] h = tt
  behind_fewer before (r ∷ rs) h = (omega (arith, h.0), h.1, h.2)

  in_order : (before : ℕ) (es : List Entry) (rs : List Receipt) → AreBehind k before es → Match IsReceiptOf (placed before es) rs
      → AreInOrder k actor before rs
  in_order before [] [] b m = tt
  in_order before [] (r ∷ rs) b m = absurd m
  in_order before (e ∷ es) rs b m = go (e.actor == actor) refl rs m (λ qs. in_order (before + 1) es qs (behind_one_more k before e es b))
    where
      others : List Placed
      others = placed (before + 1) es

      here : Placed
      here = record { position = before + 1; event = e.event; reply = slice_get k.replies before }

      go : (is : Bool) → (e.actor == actor) ≡ is → (rs : List Receipt) → Match IsReceiptOf (if is then here ∷ others else others) rs
          → ((qs : List Receipt) → Match IsReceiptOf others qs → AreInOrder k actor (before + 1) qs) → AreInOrder k actor before rs
      go false at rs m rest = behind_fewer before rs (rest rs m)
      go true at [] m rest = absurd m
      go true at (r ∷ rs) m rest =
          let index : r.position - 1 ≡ before = omega (arith, m.0.position) in (
            omega (arith, m.0.position),
            rw index (rw (b before 0 (omega arith)) (eqb-true e.actor actor at, m.0.event, m.0.reply)),
            subst (λ n. AreInOrder k actor n rs) m.0.position (rest rs m.1),
          )

-- All workers

-- the entries whose actor has a worker
abbrev with_worker : List Receipts → List Entry → List Entry
with_worker ws es = filter (λ e. has_worker ws e.actor) es

nobody : (es : List Entry) → length (with_worker [] es) ≡ 0
nobody [] = refl
nobody (e ∷ es) = nobody es

longer : (b : Bool) (e : Entry) (xs ys : List Entry) (n : ℕ) → length xs ≡ n + length ys
    → length (cond b (e ∷ xs) xs) ≡ n + length (cond b (e ∷ ys) ys)
longer true e xs ys n h = omega arith
longer false e xs ys n h = h

-- one more worker, of another actor, adds the entries of its actor
one_more : (replies : List Reply) (w : Receipts) (ws : List Receipts) (before : ℕ) (es : List Entry) → has_worker ws w.actor ≡ false
    → length (with_worker (w ∷ ws) es) ≡ length (entries_of w.actor replies before es) + length (with_worker ws es)
one_more replies w ws before [] new = refl
one_more replies w ws before (e ∷ es) new =
    let rest = one_more replies w ws (before + 1) es new in
    elim (cases_eq e.actor w.actor) [
      | inl same ↦ (
          let none : has_worker ws e.actor ≡ false = ap (has_worker ws) same ∙ new in
          rw (eq-eqb w.actor e.actor (sym same), eq-eqb e.actor w.actor same, none) (omega arith))
      | inr other ↦
          rw (ne_eqb w.actor e.actor (λ same. other (sym same)), ne_eqb e.actor w.actor other)
          (longer (has_worker ws e.actor) e (with_worker (w ∷ ws) es) (with_worker ws es) (length (entries_of w.actor replies (before + 1) es)) rest)
    ]

all_pass : {X : Type 0} (p : X → Bool) (xs : List X) → length xs ≤ length (filter p xs) → list_all p xs ≡ true
all_pass p [] h = refl
all_pass p (x ∷ xs) h = elim (cases_Bool (p x)) [
  | inl passes ↦ (let more = rw passes at h in rw passes (all_pass p xs (omega arith)))
  | inr fails ↦ absurd (let fewer = rw fails at h in omega (arith, length-filter p xs, count_by-le-length p xs))
]

none_left_out : {X : Type 0} (p : X → Bool) (xs : List X) → list_all p xs ≡ true → length (filter p xs) ≡ length xs
none_left_out p [] h = refl
none_left_out p (x ∷ xs) h = let parts = and_parts (p x) (list_all p xs) h in rw parts.0 (ap suc (none_left_out p xs parts.1))

-- no two workers are of one actor, the receipts of each are in order, and all together are so many
abbrev pub AddUp : State → List Receipts → ℕ → Type 0
AddUp k [] n = n ≡ 0
AddUp k (w ∷ ws) n =
    (has_worker ws w.actor ≡ false) × AreInOrder k w.actor 0 w.list × (length w.list ≤ n) × AddUp k ws (n - length w.list)

module _ (k : State) where
  abbrev actors : List Receipts → List ℕ
  actors ws = map (λ (w : Receipts). w.actor) ws

  has_actor : (ws : List Receipts) (actor : ℕ) → list_any (λ a. a == actor) (actors ws) ≡ has_worker ws actor
  has_actor ws actor = any_mapped (λ a. a == actor) (λ (w : Receipts). w.actor) ws

  -- how many entries have a worker
  abbrev count : List Receipts → ℕ
  count ws = length (with_worker ws k.journal)

  distinct : (ws : List Receipts) (n : ℕ) → AddUp k ws n → no_repeat (actors ws) ≡ true
  distinct [] n h = refl
  distinct (w ∷ ws) n h = rw (has_actor ws w.actor, h.0) (distinct ws (n - length w.list) h.3)

  -- receipts that are as many as the entries with a worker are of all those
  none_missing : (ws : List Receipts) (n : ℕ) → AddUp k ws n → count ws ≤ n → (n ≤ count ws) × All (IsInPlace k) ws
  none_missing [] n h many = (omega arith, All-nil (IsInPlace k))
  none_missing (w ∷ ws) n h many =
      let more = one_more k.replies w ws 0 k.journal h.0 in
      elim (all_or_fewer k w.actor 0 k.journal w.list (behind_none k) h.1) [
        | inl m ↦ (
            let same = match_length IsReceiptOf (entries_of w.actor k.replies 0 k.journal) w.list m in
            let rest = none_missing ws (n - length w.list) h.3 (omega (arith, h.2)) in
            (omega (arith, h.2, rest.0), All-cons (IsInPlace k) w ws m rest.1))
        | inr fewer ↦ absurd (let rest = none_missing ws (n - length w.list) h.3 (omega (arith, h.2)) in omega (arith, h.2, rest.0))
      ]

  add_up : (ws : List Receipts) → no_repeat (actors ws) ≡ true → All (IsInPlace k) ws → AddUp k ws (count ws)
  add_up [] once all = nobody k.journal
  add_up (w ∷ ws) once all =
      let parts = and_parts (not (list_any (λ a. a == w.actor) (actors ws))) (no_repeat (actors ws)) once in
      let new : has_worker ws w.actor ≡ false = sym (has_actor ws w.actor) ∙ not-true _ parts.0 in
      let m = All-head (IsInPlace k) w ws all in
      let more = one_more k.replies w ws 0 k.journal new in
      let same = match_length IsReceiptOf (entries_of w.actor k.replies 0 k.journal) w.list m in
      let rest : count ws ≡ count (w ∷ ws) - length w.list = omega arith in (
        new,
        in_order k w.actor 0 k.journal w.list (behind_none k) m,
        omega arith,
        subst (AddUp k ws) rest (add_up ws parts.1 (All-tail (IsInPlace k) w ws all)),
      )

  pub in_place_exactly : (ws : List Receipts) → AddUp k ws (length k.journal) ↔ AreInPlace k ws
  in_place_exactly ws =
      let has : Entry → Bool = λ e. has_worker ws e.actor in (
        (λ h.
            let all = none_missing ws (length k.journal) h (omega (arith, length-filter has k.journal, count_by-le-length has k.journal)) in
            record { distinct = distinct ws (length k.journal) h; receipts = all.1; entries = all_pass has k.journal all.0 }),
        (λ h. subst (AddUp k ws) (none_left_out has k.journal h.entries) (add_up ws h.distinct h.receipts)),
      )
