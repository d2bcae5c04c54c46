-- A comparison that is printed, from its parts.
use Rattle.std.proofs.Common.{◌≡◌, ◌≤◌, ◌⊎◌, ◌∙◌, ℕ, Bool, true, false, List, [], ◌++◌, ap, sym, refl, inl, inr, append-nil, append_assoc, length, length-append, map, nat_le, if◌then◌else◌, leb-true, subst, Result, Ok, Err, arith}
use Rattle.serde_json.specs.Data.{Data}
use Rattle.tr_kernel.specs.States.{State, opened}
use Rattle.tr_starts.specs.Starts.{is_good}
use Rattle.tr_status.specs.Writing.{IsFront}
use Rattle.tr_reading.specs.declared.faults.ScenarioFault.{ScenarioFault}
use Rattle.tr_reading.specs.declared.faults.ScenarioFault.TheVariants.{BadStart, NoMemory, Repeated, TooLarge}
use Rattle.tr_reading.specs.declared.scenarios.Scenario.{Scenario}
use Rattle.tr_reading.specs.Fields.{◌>>=◌}
use Rattle.tr_scenario.specs.Printing.{IsHalt}
use Rattle.tr_scenario.specs.Printing as page
use Rattle.tr_reading.specs.Scenarios.{calls_of_steps, has_repeats, is_small, json_of, whole}
use Rattle.tr_scenario.specs.Sources.{Came, IsSound, Shown}
use Rattle.tr_scenario.proofs.Halts.{front_none}
use Rattle.tr_scenario.proofs.Wholes.{at}
use Rattle.tr_answers.specs.declared.records.Record.{Record}
use Rattle.tr_answers.specs.Comparisons.{Asked, Tells, agreement_line, asked_from, known}
use Rattle.tr_answers.specs.Compares.{Compares, HasRead, Prints}
use Rattle.tr_answers.specs.Private.{Walks}
use Rattle.tr_answers.specs.Records.{asked, record_of, walk, whole_record}

-- What is printed

-- no kernel was opened
pub unopened : (taken : List ℕ) (failures : ℕ) (s : State) (qs : List Asked) (e : ScenarioFault) → e ≡ NoMemory → Prints taken taken failures failures s qs (Err e)
unopened taken failures s qs e m = ([], inl ([], qs, s, refl, (refl, refl)), front_none taken [], inl (m, refl))

-- the walk halted
pub halted_walk : {K : Type 0} (taken : K → List ℕ) (failures : K → ℕ) (old new : K) (page_new : List ℕ) (s u : State) (qs : List Asked) (e : ScenarioFault) →
    Walks taken failures old new [] page_new s u qs (Err e) → Prints (taken old) (taken new) (failures old) (failures new) s qs (Err e)
halted_walk taken failures old new page_new s u qs e w = (w.0, elim w.1 [ inl h ↦ inl h | inr h ↦ inr (false, h) ], w.2, w.3)

-- memory was refused before the last line was kept back
pub lacking_line : {K : Type 0} (taken : K → List ℕ) (failures : K → ℕ) (old new : K) (page_new : List ℕ) (s u : State) (qs : List Asked) →
    Walks taken failures old new [] page_new s u qs (Ok true) → Prints (taken old) (taken new) (failures old) (failures new) s qs (Err NoMemory)
lacking_line taken failures old new page_new s u qs w = (w.0, inl (qs, [], u, sym (append-nil qs), w.1), (page_new, w.2.0, w.2.1), inl (refl, w.2.2))

-- the whole text is kept back
pub record IsTold {K : Type 0} (taken : K → List ℕ) (failures : K → ℕ) (old mid : K) (kept : List ℕ) (s : State) (qs : List Asked) (agrees : Bool) : Type 0 where
  pub text : List ℕ
  pub tells : Tells s qs text agrees
  pub came : taken mid ++ kept ≡ taken old ++ text
  pub shorter : length kept ≤ length text
  pub same : failures mid ≡ failures old

told_difference : {K : Type 0} (taken : K → List ℕ) (failures : K → ℕ) (old mid : K) (kept : List ℕ) (s u : State) (qs : List Asked) →
    Walks taken failures old mid [] kept s u qs (Ok false) → IsTold taken failures old mid kept s qs false
told_difference taken failures old mid kept s u qs w = record { text = w.0; tells = w.1; came = w.2.0; shorter = w.2.1; same = w.2.2 }

told_agreement : {K : Type 0} (taken : K → List ℕ) (failures : K → ℕ) (old mid : K) (kept kept_new : List ℕ) (s u : State) (qs : List Asked) →
    Walks taken failures old mid [] kept s u qs (Ok true) → kept_new ≡ kept ++ agreement_line (known qs) → IsTold taken failures old mid kept_new s qs true
told_agreement taken failures old mid kept kept_new s u qs w line =
    let last = agreement_line (known qs) in
    record {
      text = w.0 ++ last;
      tells = record { last = u; lines = w.0; goes = w.1; whole = refl };
      came = ap (λ xs. taken mid ++ xs) line ∙ (sym (append_assoc (taken mid) kept last) ∙ (ap (λ xs. xs ++ last) w.2.0 ∙ append_assoc (taken old) w.0 last));
      shorter = rw line (omega (arith, w.2.1, length-append kept last, length-append w.0 last));
      same = w.2.2;
    }

pub told_end : {K : Type 0} (taken : K → List ℕ) (failures : K → ℕ) (old mid : K) (none kept kept_new : List ℕ) (s u : State) (qs : List Asked) (agrees : Bool) →
    none ≡ [] → Walks taken failures old mid none kept s u qs (Ok agrees) → ((agrees ≡ true) × (kept_new ≡ kept ++ agreement_line (known qs))) ⊎ ((agrees ≡ false) × (kept_new ≡ kept)) →
    IsTold taken failures old mid kept_new s qs agrees
told_end taken failures old mid none kept kept_new s u qs true e w (inl h) =
    told_agreement taken failures old mid kept kept_new s u qs (subst (λ k. Walks taken failures old mid k kept s u qs (Ok true)) e w) h.1
told_end taken failures old mid none kept kept_new s u qs true e w (inr h) = let no_end = h.0 in cc
told_end taken failures old mid none kept kept_new s u qs false e w (inl h) = let no_end = h.0 in cc
told_end taken failures old mid none kept kept_new s u qs false e w (inr h) =
    subst (λ k. IsTold taken failures old mid k s qs false) (sym h.1) (told_difference taken failures old mid kept s u qs (subst (λ k. Walks taken failures old mid k kept s u qs (Ok false)) e w))

-- it was printed
pub printed : {K X : Type 0} (taken : K → List ℕ) (failures : K → ℕ) (old mid new : K) (kept : List ℕ) (s : State) (qs : List Asked) (agrees : Bool) (x : X) →
    IsTold taken failures old mid kept s qs agrees → page.Prints {X = X} taken failures mid new kept (Ok x) → Prints (taken old) (taken new) (failures old) (failures new) s qs (Ok agrees)
printed taken failures old mid new kept s qs agrees x t p = (t.text, t.tells, p.0 ∙ t.came, p.1 ∙ t.same)

-- a front of it was
pub halted_print : {K : Type 0} (taken : K → List ℕ) (failures : K → ℕ) (old mid new : K) (kept : List ℕ) (s : State) (qs : List Asked) (agrees : Bool) (e : ScenarioFault) →
    IsTold taken failures old mid kept s qs agrees → IsFront (taken mid) (taken new) kept × IsHalt e (failures mid) (failures new) → Prints (taken old) (taken new) (failures old) (failures new) s qs (Err e)
halted_print taken failures old mid new kept s qs agrees e t h =
    (t.text, inr (agrees, t.tells), (h.0.0, h.0.1 ∙ t.came, omega (arith, h.0.2, t.shorter)), rw t.same at h.1)

-- A record that was read has a good start, and few calls

abbrev pub IsFit : Record → Type 0
IsFit r = (is_good r.start ≡ true) × (calls_of_steps (map (λ a. a.step) r.steps) ≤ 100000)

passed : (small repeats good : Bool) (s : Scenario) (r t : Record) →
    ((if small then (if repeats then Err Repeated else (if good then Ok s else Err BadStart)) else Err TooLarge) >>= (λ _. Ok r)) ≡ Ok t → (r ≡ t) × (small ≡ true) × (good ≡ true)
passed false repeats good s r t h = cc
passed true true good s r t h = cc
passed true false false s r t h = cc
passed true false true s r t h = (cc, refl, refl)

whole_is_fit : (r t : Record) → whole_record r ≡ Ok t → IsFit t
unfolding whole_record whole
whole_is_fit r t h =
    let p = passed (is_small (asked r).job) (has_repeats (asked r)) (is_good r.start) (asked r) r t h in
    subst IsFit p.0 (p.2, leb-true (calls_of_steps (map (λ a. a.step) r.steps)) 100000 p.1)

walked_is_fit : (w : Result Record ScenarioFault) (t : Record) → (w >>= whole_record) ≡ Ok t → IsFit t
walked_is_fit (Ok r) t h = whole_is_fit r t h
walked_is_fit (Err e) t h = cc

parsed_is_fit : (j : Result Data ScenarioFault) (t : Record) → (j >>= λ d. walk d >>= whole_record) ≡ Ok t → IsFit t
parsed_is_fit (Ok d) t h = walked_is_fit (walk d) t h
parsed_is_fit (Err e) t h = cc

small : (fits : Bool) (r : Result Record ScenarioFault) (t : Record) → (if fits then r else Err TooLarge) ≡ Ok t → r ≡ Ok t
small true r t h = h
small false r t h = cc

pub record_is_fit : (bytes : List ℕ) (r : Record) → record_of bytes ≡ Ok r → IsFit r
unfolding record_of
record_is_fit bytes r h = parsed_is_fit (json_of bytes) r (small (nat_le (length bytes) 1048576) (json_of bytes >>= λ d. walk d >>= whole_record) r h)

-- The reader told its end

too_large : (bytes : List ℕ) → length bytes ≡ 1048577 → record_of bytes ≡ Err TooLarge
unfolding record_of
too_large bytes h = let no : nat_le (length bytes) 1048576 ≡ false = rw h refl in rw no refl

ended_at_fault : (bytes : List ℕ) (ended : Bool) (e : ScenarioFault) → (length bytes ≡ 1048577) ⊎ (ended ≡ true) → record_of bytes ≡ Err e → (e ≡ TooLarge) ⊎ (ended ≡ true)
ended_at_fault bytes ended e (inl h) f = inl (let k = too_large bytes h in cc)
ended_at_fault bytes ended e (inr h) f = inr h

ended_at_record : (bytes : List ℕ) (ended : Bool) (r : Record) → (length bytes ≡ 1048577) ⊎ (ended ≡ true) → record_of bytes ≡ Ok r → ended ≡ true
ended_at_record bytes ended r (inl h) f = let k = too_large bytes h in cc
ended_at_record bytes ended r (inr h) f = h

-- The whole comparison

-- the bytes were refused, or memory was
pub refused : (old new : Shown) (taken : List ℕ) (failures : ℕ) (bytes : List ℕ) (e : ScenarioFault) →
    Came old new bytes → (length bytes ≡ 1048577) ⊎ (new.ended ≡ true) → IsSound old new → (e ≡ NoMemory) ⊎ (record_of bytes ≡ Err e) →
    Compares (at old taken failures) (at new taken failures) (Err e)
refused old new taken failures bytes e came end sound (inl m) = inl (bytes, inr (record { came = came; cause = inl (m, sound); untouched = record { taken = refl; failures = refl } }))
refused old new taken failures bytes e came end sound (inr f) = inl (bytes, inl (record { came = came; sound = sound; ended = ended_at_fault bytes new.ended e end f; fault = f; untouched = record { taken = refl; failures = refl } }))

has_read : (old new : Shown) (taken taken_new : List ℕ) (failures failures_new : ℕ) (bytes : List ℕ) (r : Record) →
    Came old new bytes → (length bytes ≡ 1048577) ⊎ (new.ended ≡ true) → IsSound old new → record_of bytes ≡ Ok r → HasRead (at old taken failures) (at new taken_new failures_new) bytes r
has_read old new taken taken_new failures failures_new bytes r came end sound is = record { came = came; sound = sound; ended = ended_at_record bytes new.ended r end is; record_read = is }

pub compared : (old new : Shown) (taken taken_new : List ℕ) (failures failures_new : ℕ) (bytes : List ℕ) (r : Record) (x : Result Bool ScenarioFault) →
    Came old new bytes → (length bytes ≡ 1048577) ⊎ (new.ended ≡ true) → IsSound old new → record_of bytes ≡ Ok r →
    Prints taken taken_new failures failures_new (opened r.start) (asked_from 1 r.steps) x → Compares (at old taken failures) (at new taken_new failures_new) x
compared old new taken taken_new failures failures_new bytes r (Ok agrees) came end sound is p = (bytes, r, has_read old new taken taken_new failures failures_new bytes r came end sound is, p)
compared old new taken taken_new failures failures_new bytes r (Err e) came end sound is p = inr (bytes, r, has_read old new taken taken_new failures failures_new bytes r came end sound is, p)
