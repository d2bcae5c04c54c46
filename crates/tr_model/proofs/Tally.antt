-- The fates of the accepted numbers.
use Rattle.std.proofs.Common.{◌≡◌, ℕ, zero, suc, ◌+◌, ◌≤◌, List, [], ◌∷◌, ◌++◌, true, false, Some, None, Option, refl, sym, ap, ◌∙◌, Bool, ◌&&◌, ◌==◌, ◌⊎◌, inl, inr, if◌then◌else◌, arith, nat_le, true≢false, ap₂, slice_get, unwrap_or}
use Rattle.std.proofs.lemmas.Bool.{le-leb, eqb-true, and_from, eq-eqb}
use Rattle.std.proofs.lemmas.Option.{none-some, same_Some}
use Rattle.tr_model.specs.Entries.{Entry}
use Rattle.tr_model.specs.declared.fates.Fate.{Fate}
use Rattle.tr_model.specs.declared.fates.Fate.TheVariants.{Pending, Merged, Delivered, Suppressed, Flushed}
use Rattle.tr_model.proofs.OneFate.{waits, one, gone, holds, Sound, born_within, waits_is, held_is, replay_sound, start_sound}
use Rattle.tr_model.proofs.Measures.{total}
use Rattle.tr_model.specs.declared.fates.Ending.{Ending}
use Rattle.tr_model.specs.Journals.{IsIn, Taken}
use Rattle.tr_model.specs.Laws.{PassesOn}
use Rattle.tr_model.specs.Tables.{Table}
use Rattle.tr_model.specs.Journals
use Rattle.tr_model.specs.Laws
use Rattle.tr_model.proofs.Among.{occurs-append}
use Rattle.tr_model.proofs.Standing.{occurs-in}

abbrev ending : ℕ → Fate → Ending
ending n f = record { number = n; fate = f }

five : (o : Fate) → Journals.counts Pending (Some o) + Journals.counts Merged (Some o) + Journals.counts Delivered (Some o) + Journals.counts Suppressed (Some o) + Journals.counts Flushed (Some o) ≡ 1
five Pending = refl
five Merged = refl
five Delivered = refl
five Suppressed = refl
five Flushed = refl

within_bool : (n a : ℕ) → 1 ≤ n → n ≤ a → (nat_le 1 n && nat_le n a) ≡ true
within_bool n a h l = and_from _ _ (le-leb 1 n h) (le-leb n a l)

five_of : (T U : Table) (es : List Entry) (n : ℕ) → 1 ≤ n → n ≤ U.accepted
    → Journals.counts Pending (Journals.fate_of T es U n) + Journals.counts Merged (Journals.fate_of T es U n) + Journals.counts Delivered (Journals.fate_of T es U n) + Journals.counts Suppressed (Journals.fate_of T es U n) + Journals.counts Flushed (Journals.fate_of T es U n) ≡ 1
five_of T U es n h l = go (nat_le 1 n && nat_le n U.accepted) (within_bool n U.accepted h l)
  where
    now : Fate
    now = unwrap_or (Journals.ended_as (Journals.ended_by T es) n) Pending

    go : (b : Bool) → b ≡ true
        → Journals.counts Pending (if b then Some (unwrap_or (Journals.ended_as (Journals.ended_by T es) n) Pending) else None) + Journals.counts Merged (if b then Some (unwrap_or (Journals.ended_as (Journals.ended_by T es) n) Pending) else None) + Journals.counts Delivered (if b then Some (unwrap_or (Journals.ended_as (Journals.ended_by T es) n) Pending) else None) + Journals.counts Suppressed (if b then Some (unwrap_or (Journals.ended_as (Journals.ended_by T es) n) Pending) else None) + Journals.counts Flushed (if b then Some (unwrap_or (Journals.ended_as (Journals.ended_by T es) n) Pending) else None) ≡ 1
    go true e = five (unwrap_or (Journals.ended_as (Journals.ended_by T es) n) Pending)
    go false e = absurd (true≢false (sym e))

sum_to : (T U : Table) (es : List Entry) (a : ℕ) → a ≤ U.accepted
    → Journals.how_many T es U Pending a + Journals.how_many T es U Merged a + Journals.how_many T es U Delivered a + Journals.how_many T es U Suppressed a + Journals.how_many T es U Flushed a ≡ a
sum_to T U es zero h = refl
sum_to T U es (suc a) h = omega (arith, five_of T U es (suc a) (omega arith) h, sum_to T U es a (omega arith))

pub fates_sum : Laws.FatesSumToAccepted
fates_sum T U es = sum_to T U es U.accepted (omega arith)

-- one fate

occurs_is_in : (n : ℕ) (xs : List ℕ) → 1 ≤ Journals.occurs n xs → IsIn n xs
occurs_is_in n [] h = absurd (omega arith)
occurs_is_in n (x ∷ xs) h = go (x == n) refl h (occurs_is_in n xs)
  where
    go : (b : Bool) → (x == n) ≡ b → 1 ≤ (if b then 1 else 0) + Journals.occurs n xs → (1 ≤ Journals.occurs n xs → IsIn n xs) → (x ≡ n) ⊎ IsIn n xs
    go true q l r = inl (eqb-true x n q)
    go false q l r = inr (r (omega arith))

-- the first ending of a number is one of its endings
ended_first : (es : List Ending) (n : ℕ) (f : Fate) → Journals.ended_as es n ≡ Some f → (k : ℕ) × (slice_get es k ≡ Some (ending n f))
ended_first [] n f e = absurd (none-some f e)
ended_first (x ∷ es) n f e = go (x.number == n) refl e (ended_first es n f)
  where
    go : (b : Bool) → (x.number == n) ≡ b → (if b then Some x.fate else Journals.ended_as es n) ≡ Some f → (Journals.ended_as es n ≡ Some f → (k : ℕ) × (slice_get es k ≡ Some (ending n f))) → (k : ℕ) × (slice_get (x ∷ es) k ≡ Some (ending n f))
    go true q s r = (zero, (λ i. Some (record { number = eqb-true x.number n q i; fate = same_Some x.fate f s i })))
    go false q s r = let z = r s in (suc z.0, z.1)

-- where a number is ended once, each of its endings is the first
ended_only : (es : List Ending) (n k : ℕ) (f : Fate) → gone n es ≤ 1 → slice_get es k ≡ Some (ending n f) → (Journals.ended_as es n ≡ Some f) × (1 ≤ gone n es)
ended_only [] n k f l e = absurd (none-some (ending n f) e)
ended_only (x ∷ es) n zero f l e = (found (x.number == n) (eq-eqb x.number n (ap (λ (y : Ending). y.number) same)), counted (x.number == n) (eq-eqb x.number n (ap (λ (y : Ending). y.number) same)))
  where
    same : x ≡ ending n f
    same = same_Some x (ending n f) e

    found : (b : Bool) → b ≡ true → (if b then Some x.fate else Journals.ended_as es n) ≡ Some f
    found true q = ap (λ (y : Ending). Some y.fate) same
    found false q = absurd (true≢false (sym q))

    counted : (b : Bool) → b ≡ true → 1 ≤ one b + gone n es
    counted true q = omega arith
    counted false q = absurd (true≢false (sym q))
ended_only (x ∷ es) n (suc k) f l e = go (x.number == n) l (λ h. ended_only es n k f h e)
  where
    go : (b : Bool) → one b + gone n es ≤ 1 → (gone n es ≤ 1 → (Journals.ended_as es n ≡ Some f) × (1 ≤ gone n es)) → ((if b then Some x.fate else Journals.ended_as es n) ≡ Some f) × (1 ≤ one b + gone n es)
    go true h r = absurd (let z = (r (omega arith)).1 in omega arith)
    go false h r = ((r (omega arith)).0, omega (arith, (r (omega arith)).1))

never_ended : (es : List Ending) (n : ℕ) → Journals.ended_as es n ≡ None → gone n es ≡ 0
never_ended [] n e = refl
never_ended (x ∷ es) n e = go (x.number == n) e (never_ended es n)
  where
    go : (b : Bool) → (if b then Some x.fate else Journals.ended_as es n) ≡ None → (Journals.ended_as es n ≡ None → gone n es ≡ 0) → one b + gone n es ≡ 0
    go true q r = absurd (none-some x.fate (sym q))
    go false q r = omega (arith, r q)

pub fates_agree : Laws.FatesAgree
fates_agree T U es rs start r n l m = (has (Journals.ended_as (Journals.ended_by T es) n) refl, λ f h. only f h)
  where
    s : Sound U (Journals.ended_by T es)
    s = replay_sound T U [] es rs (start_sound T start) r

    count : waits n U.waiting + total (holds n) U.threads + gone n (Journals.ended_by T es) ≡ 1
    count = (replay_sound T U [] es rs (start_sound T start) r).at n ∙ born_within n U.accepted l m

    lists : Journals.occurs n (Journals.waiting_numbers U.waiting ++ Journals.held_numbers U.threads) ≡ waits n U.waiting + total (holds n) U.threads
    lists = occurs-append n (Journals.waiting_numbers U.waiting) (Journals.held_numbers U.threads) ∙ ap₂ (λ a b. a + b) (waits_is n U.waiting) (held_is n U.threads)

    has : (o : Option Fate) → Journals.ended_as (Journals.ended_by T es) n ≡ o → Journals.HasFate (Journals.ended_by T es) U n (unwrap_or o Pending)
    has None e = Journals.HasFate.still (occurs_is_in n (Journals.waiting_numbers U.waiting ++ Journals.held_numbers U.threads) (omega (arith, lists, count, never_ended (Journals.ended_by T es) n e)))
    has (Some f) e = let k = ended_first (Journals.ended_by T es) n f e in Journals.HasFate.ended_so k.0 k.1

    by_first : (o : Option Fate) → Journals.ended_as (Journals.ended_by T es) n ≡ o → 1 ≤ Journals.occurs n (Journals.waiting_numbers U.waiting ++ Journals.held_numbers U.threads) → Pending ≡ unwrap_or o Pending
    by_first None e h = refl
    by_first (Some f) e h = let k = ended_first (Journals.ended_by T es) n f e in let g = (ended_only (Journals.ended_by T es) n k.0 f (omega (arith, count)) k.1).1 in absurd (omega (arith, lists, count))

    only : (f : Fate) → Journals.HasFate (Journals.ended_by T es) U n f → f ≡ unwrap_or (Journals.ended_as (Journals.ended_by T es) n) Pending
    only f (Journals.HasFate.ended_so k e) = ap (λ o. unwrap_or o Pending) (sym (ended_only (Journals.ended_by T es) n k f (omega (arith, count)) e).0)
    only f (Journals.HasFate.still h) = by_first (Journals.ended_as (Journals.ended_by T es) n) refl (occurs-in n (Journals.waiting_numbers U.waiting ++ Journals.held_numbers U.threads) h)
