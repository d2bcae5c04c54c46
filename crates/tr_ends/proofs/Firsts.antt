-- The first number of lists joined, the first thread that has a report, and what a filter leaves.
use Rattle.std.proofs.Common.{◌≡◌, ◌&&◌, ◌∙◌, ℕ, List, [], ◌∷◌, ◌++◌, Bool, true, false, not, ◌||◌, Option, Some, None, filter, find, flat_map, if◌then◌else◌, is_some, ap, sym, refl}
use Rattle.std.specs.List.{list_any}
use Rattle.std.specs.Option.{option_or}
use Rattle.tr_wait.specs.Words.{asks_for}
use Rattle.tr_wait.specs.declared.waits.Which.{Which}
use Rattle.tr_model.specs.declared.rows.Group.{Group}
use Rattle.tr_model.specs.StarterWaits.{group_with_note, has_death, with_death}
use Rattle.tr_model.specs.Tables.{Table, thread_of}
use Rattle.tr_model.specs.Takes.{is_empty}
use Rattle.tr_model.specs.Waits.{has_report, report_number, with_report}
use Rattle.tr_ends.specs.Private.{first_number, led_among}
use Rattle.tr_threads.specs.Waits.{is_report}
use Rattle.tr_tracee.specs.declared.thread.Report.{Report}
use Rattle.tr_tracee.specs.declared.thread.Thread.{Thread}

pub first_append : (xs ys : List ℕ) → first_number (xs ++ ys) ≡ option_or (first_number xs) (first_number ys)
first_append [] ys = refl
first_append (x ∷ xs) ys = refl

pub any_is_left : {A : Type 0} (p : A → Bool) (xs : List A) → list_any p xs ≡ not (is_empty (filter p xs))
any_is_left p [] = refl
any_is_left p (x ∷ xs) = go (p x) (any_is_left p xs)
  where
    go : (b : Bool) → list_any p xs ≡ not (is_empty (filter p xs)) → (b || list_any p xs) ≡ not (is_empty (if b then x ∷ filter p xs else filter p xs))
    go true ih = refl
    go false ih = ih

-- a test that passes only where another does, after it

pub any_twice : {A : Type 0} (p q : A → Bool) (xs : List A) → list_any (λ x. p x && q x) (filter p xs) ≡ list_any (λ x. p x && q x) xs
any_twice p q [] = refl
any_twice p q (x ∷ xs) = go (p x) refl (any_twice p q xs)
  where
    go : (b : Bool) → p x ≡ b → list_any (λ y. p y && q y) (filter p xs) ≡ list_any (λ y. p y && q y) xs → list_any (λ y. p y && q y) (if b then x ∷ filter p xs else filter p xs) ≡ ((p x && q x) || list_any (λ y. p y && q y) xs)
    go true e h = ap (λ b. (p x && q x) || b) h
    go false e h = h ∙ ap (λ b. (b && q x) || list_any (λ y. p y && q y) xs) (sym e)

pub filter_twice : {A : Type 0} (p q : A → Bool) (xs : List A) → filter (λ x. p x && q x) (filter p xs) ≡ filter (λ x. p x && q x) xs
filter_twice p q [] = refl
filter_twice p q (x ∷ xs) = go (p x) refl (filter_twice p q xs)
  where
    go : (b : Bool) → p x ≡ b → filter (λ y. p y && q y) (filter p xs) ≡ filter (λ y. p y && q y) xs
        → filter (λ y. p y && q y) (if b then x ∷ filter p xs else filter p xs) ≡ (if p x && q x then x ∷ filter (λ y. p y && q y) xs else filter (λ y. p y && q y) xs)
    go true e h = ap (λ us. if p x && q x then x ∷ us else us) h
    go false e h = h ∙ ap (λ b. if b && q x then x ∷ filter (λ y. p y && q y) xs else filter (λ y. p y && q y) xs) (sym e)

-- the first that is told of those that pass a test

pub first_told : {A : Type 0} (f : A → List ℕ) (p : A → Bool) (x : A) (xs : List A) → first_number (flat_map f (filter p (x ∷ xs))) ≡ option_or (first_number (if p x then f x else [])) (first_number (flat_map f (filter p xs)))
first_told f p x xs = go (p x)
  where
    go : (b : Bool) → first_number (flat_map f (if b then x ∷ filter p xs else filter p xs)) ≡ option_or (first_number (if b then f x else [])) (first_number (flat_map f (filter p xs)))
    go true = first_append (f x) (flat_map f (filter p xs))
    go false = refl

-- the first of these groups whose leader's death, or whose note, has the number

pub death_first : (T : Table) (which : Which) (n : ℕ) (g : Group) (gs : List Group) → with_death T (led_among T which (g ∷ gs)) n ≡ (if (asks_for which g.tgid && is_some (thread_of T g.tgid)) && has_death n (thread_of T g.tgid) then thread_of T g.tgid else with_death T (led_among T which gs) n)
death_first T which n g gs = go (asks_for which g.tgid && is_some (thread_of T g.tgid))
  where
    go : (b : Bool) → with_death T (if b then g ∷ led_among T which gs else led_among T which gs) n ≡ (if b && has_death n (thread_of T g.tgid) then thread_of T g.tgid else with_death T (led_among T which gs) n)
    go true = refl
    go false = refl

pub note_first : (p : Group → Bool) (n : ℕ) (g : Group) (gs : List Group) → group_with_note (filter p (g ∷ gs)) n ≡ (if has_report n g.note && p g then Some g else group_with_note (filter p gs) n)
note_first p n g gs = go (p g) (has_report n g.note) refl
  where
    go : (b h : Bool) → has_report n g.note ≡ h → group_with_note (if b then g ∷ filter p gs else filter p gs) n ≡ (if h && b then Some g else group_with_note (filter p gs) n)
    go true true e = ap (λ h. if h then Some g else group_with_note (filter p gs) n) e
    go true false e = ap (λ h. if h then Some g else group_with_note (filter p gs) n) e
    go false true e = refl
    go false false e = refl

-- the number of the thread's report, if it is there and has one
abbrev pub number_in : Option Thread → Option ℕ
number_in None = None
number_in (Some t) = first_number (report_number t.report)

pub first_reported : (ts : List Thread) → first_number (flat_map (λ t. report_number t.report) ts) ≡ number_in (find (λ t. is_report None t.report) ts)
first_reported [] = refl
first_reported (t ∷ ts) = go t.report refl (first_reported ts)
  where
    rest : List ℕ
    rest = flat_map (λ u. report_number u.report) ts

    go : (r : Option Report) → t.report ≡ r → first_number rest ≡ number_in (find (λ u. is_report None u.report) ts)
        → first_number (report_number r ++ rest) ≡ number_in (if is_report None r then Some t else find (λ u. is_report None u.report) ts)
    go None e h = h
    go (Some x) e h = ap (λ r. first_number (report_number r)) (sym e)

pub with_number : (ts : List Thread) (n : ℕ) → with_report ts n ≡ find (λ t. is_report (Some n) t.report) ts
with_number [] n = refl
with_number (t ∷ ts) n = ap (λ o. if has_report n t.report then Some t else o) (with_number ts n)
