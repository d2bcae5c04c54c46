-- Nothing is answered exactly where the model admits no choice, and this product's choice is one that it admits.
use Rattle.std.proofs.Common.{◌≡◌, ◌∙◌, ◌==◌, ℕ, List, [], ◌∷◌, ◌++◌, Bool, true, false, not, ◌&&◌, ◌||◌, Option, Some, None, if◌then◌else◌, refl, sym, ap, subst, inl, inr}
use Rattle.std.specs.Prelude.{◌⊎◌, filter, is_some}
use Rattle.std.specs.List.{list_any}
use Rattle.std.proofs.lemmas.Bool.{and_from, and_parts, eq-eqb, not-false, not-true, or_cases, or_left, or_right, true≢false}
use Rattle.tr_pending.specs.declared.instance.Instance.{Instance}
use Rattle.tr_wait.specs.Words.{asks_for}
use Rattle.tr_wait.specs.declared.waits.WaitFlags.{WaitFlags}
use Rattle.tr_wait.specs.declared.waits.Which.{Which}
use Rattle.tr_tracee.specs.declared.thread.Report.{Report}
use Rattle.tr_tracee.specs.declared.thread.Thread.{Thread}
use Rattle.tr_tracee.specs.Lives.{held, is_dead, message}
use Rattle.tr_tracee.specs.Threads.{in_group, is_traced}
use Rattle.tr_model.specs.declared.events.Event.{Event}
use Rattle.tr_model.specs.declared.events.Event.TheVariants as event
use Rattle.tr_model.specs.declared.replies.Refusal.{Refusal}
use Rattle.tr_model.specs.declared.replies.Reply.TheVariants as reply
use Rattle.tr_model.specs.declared.rows.Group.{Group}
use Rattle.tr_model.specs.Causes.{can_take_thread, cause_of, exists_where, first_cause, is_in, message_of, message_reply, nothing_where, quiet_of, siginfo, siginfo_of, thread_then}
use Rattle.tr_model.specs.Journals.{IsSorted}
use Rattle.tr_model.specs.Laws.{PreferredIsAdmitted}
use Rattle.tr_model.specs.Journals.{DistinctIds}
use Rattle.tr_model.specs.Laws.{HasFreeId, NothingIsExact}
use Rattle.tr_model.specs.Preferred.{best_for, clone_choice, new_id, preferred, reporting, take_any_choice, take_choice, taking, taking_by}
use Rattle.tr_model.specs.Steps.{Admits, is_new, takes}
use Rattle.tr_model.specs.Choices.{gives_id, gives_report, takes_by, takes_instance}
use Rattle.tr_model.specs.Tables.{Table, has_traced, members, thread_of}
use Rattle.tr_model.specs.Takes.{can_take, choices, is_empty, with_number}
use Rattle.tr_model.specs.StarterWaits.{death_number, has_death, led_groups, note_number, note_wanted, ready_death, ready_for_starter, ready_note, ready_of_group, shows_note, with_death, group_with_note}
use Rattle.tr_model.specs.Waits.{asked_tracees, has_report, ready, ready_thread, report_number, with_report}
use Rattle.tr_model.proofs.Among.{Among, among_filter, among_flat, any_among, empty_left, empty_right, filter_among, find_among, first_of_flat, found_by_id, some_found}
use Rattle.tr_model.proofs.FreeIds.{new_id_is_new}
use Rattle.tr_model.proofs.Takable.{taken_by_choice}

-- Replies without an entry

where_nothing : (b : Bool) → nothing_where b ≡ Some reply.Nothing → b ≡ true
where_nothing true e = refl
where_nothing false e = cc

exists_is_something : (s : ℕ) → exists_where s ≡ Some reply.Nothing → ⊥
exists_is_something s = elim (s == 0) as (λ b. (if b then Some reply.Exists else None) ≡ Some reply.Nothing → ⊥) [ true ↦ λ e. cc | false ↦ λ e. cc ]

message_is_something : (o : Option Thread) → message_of o ≡ Some reply.Nothing → ⊥
message_is_something None e = cc
message_is_something (Some t) e = go (message t.life) e
  where
    go : (m : Option ℕ) → message_reply m ≡ Some reply.Nothing → ⊥
    go None e = cc
    go (Some n) e = cc

siginfo_is_something : (o : Option Thread) → siginfo_of o ≡ Some reply.Nothing → ⊥
siginfo_is_something None e = cc
siginfo_is_something (Some t) e = go (held t.life) e
  where
    go : (i : Option Instance) → siginfo i ≡ Some reply.Nothing → ⊥
    go None e = cc
    go (Some i) e = cc

-- Takes

-- who takes an instance can take one
taker_can : (T : Table) (t : Thread) (n : ℕ) → is_some (with_number n (choices T t)) ≡ true → can_take T t ≡ true
taker_can T t n = go (choices T t)
  where
    go : (is : List Instance) → is_some (with_number n is) ≡ true → not (is_empty is) ≡ true
    go [] e = absurd (true≢false (sym e))
    go (i ∷ is) e = refl

thread_can : (T : Table) (o : Option Thread) (n : ℕ) → takes T o n ≡ true → can_take_thread T o ≡ true
thread_can T None n e = absurd (true≢false (sym e))
thread_can T (Some t) n e = taker_can T t n e

-- and is a member of its group that can
member_can : (T : Table) (g id n : ℕ) → is_in g (thread_of T id) ≡ true → takes T (thread_of T id) n ≡ true → list_any (can_take T) (members T g) ≡ true
member_can T g id n = go (thread_of T id) refl
  where
    go : (o : Option Thread) → thread_of T id ≡ o → is_in g o ≡ true → takes T o n ≡ true → list_any (can_take T) (members T g) ≡ true
    go None f h k = absurd (true≢false (sym h))
    go (Some t) f h k = any_among (can_take T) t (members T g) (among_filter (in_group g) t T.threads (find_among (λ x. x.id == id) t T.threads f).0 h) (taker_can T t n k)

-- Reports

abbrev Reporter : ℕ → Thread → Type 0
Reporter r t = has_report r t.report ≡ true

reporter_among : (ts : List Thread) (r : ℕ) (t : Thread) → with_report ts r ≡ Some t → Among t ts × Reporter r t
reporter_among [] r t e = cc
reporter_among (x ∷ ts) r t e = go (has_report r x.report) refl (reporter_among ts r t) e
  where
    go : (b : Bool) → has_report r x.report ≡ b → (with_report ts r ≡ Some t → Among t ts × Reporter r t) → (if b then Some x else with_report ts r) ≡ Some t → Among t (x ∷ ts) × Reporter r t
    go true h rest f = let same : x ≡ t = cc in (inl (sym same), subst (Reporter r) same h)
    go false h rest f = let k = rest f in (inr k.0, k.1)

pub noter_among : (gs : List Group) (r : ℕ) (g : Group) → group_with_note gs r ≡ Some g → Among g gs × (has_report r g.note ≡ true)
noter_among [] r g e = cc
noter_among (x ∷ gs) r g e = go (has_report r x.note) refl (noter_among gs r g) e
  where
    go : (b : Bool) → has_report r x.note ≡ b → (group_with_note gs r ≡ Some g → Among g gs × (has_report r g.note ≡ true)) → (if b then Some x else group_with_note gs r) ≡ Some g → Among g (x ∷ gs) × (has_report r g.note ≡ true)
    go true h rest f = let same : x ≡ g = cc in (inl (sym same), subst (λ z. has_report r z.note ≡ true) same h)
    go false h rest f = let k = rest f in (inr k.0, k.1)

number_there : (r : ℕ) (o : Option Report) → has_report r o ≡ true → is_empty (report_number o) ≡ false
number_there r None e = absurd (true≢false (sym e))
number_there r (Some x) e = refl

-- a tracee that has a report is ready
tracee_ready : (T : Table) (a : ℕ) (which : Which) (r : ℕ) → is_some (ready_thread T a which r) ≡ true → is_empty (ready T a which) ≡ false
tracee_ready T a which r e =
    let f = some_found (ready_thread T a which r) e in
    let h = reporter_among (asked_tracees T a which) r f.0 f.1 in
    among_flat (λ t. report_number t.report) f.0 (asked_tracees T a which) h.0 (number_there r f.0.report h.1)

-- The starter's reports

-- what makes a group one that is asked for
led : (T : Table) (which : Which) (g : Group) → Among g T.groups → asks_for which g.tgid ≡ true → is_some (thread_of T g.tgid) ≡ true → Among g (led_groups T which)
led T which g m asked there = among_filter (λ x. asks_for which x.tgid && is_some (thread_of T x.tgid)) g T.groups m (and_from _ _ asked there)

-- a dead leader's report is its group's
death_there : (r : ℕ) (o : Option Thread) → has_death r o ≡ true → is_empty (death_number o) ≡ false
death_there r None h = absurd (true≢false (sym h))
death_there r (Some t) h =
    let p = and_parts (is_dead t.life) (not (is_traced t) && has_report r t.report) h in
    let q = and_parts (not (is_traced t)) (has_report r t.report) p.1 in
    rw (p.0, q.0) (number_there r t.report q.1)

death_among : (T : Table) (gs : List Group) (r : ℕ) → is_some (with_death T gs r) ≡ true → (g : Group) × Among g gs × (has_death r (thread_of T g.tgid) ≡ true)
death_among T [] r e = absurd (true≢false (sym e))
death_among T (x ∷ gs) r e = go (has_death r (thread_of T x.tgid)) refl (death_among T gs r) e
  where
    go : (b : Bool) → has_death r (thread_of T x.tgid) ≡ b → (is_some (with_death T gs r) ≡ true → (g : Group) × Among g gs × (has_death r (thread_of T g.tgid) ≡ true))
        → is_some (if b then thread_of T x.tgid else with_death T gs r) ≡ true → (g : Group) × Among g (x ∷ gs) × (has_death r (thread_of T g.tgid) ≡ true)
    go true h rest f = (x, inl refl, h)
    go false h rest f = let k = rest f in (k.0, inr k.1, k.2)

-- a dead leader that has a report makes its group ready
leader_ready : (T : Table) (which : Which) (flags : WaitFlags) (r : ℕ) → is_some (ready_death T which r) ≡ true → is_empty (ready_for_starter T which flags) ≡ false
leader_ready T which flags r e =
    let k = death_among T (led_groups T which) r e in
    let g : Group = k.0 in
    among_flat (ready_of_group T flags) g (led_groups T which) k.1
    (empty_left (death_number (thread_of T g.tgid)) (if has_traced T g.tgid then [] else note_number flags g.note) (death_there r (thread_of T g.tgid) k.2))

-- a note that is asked for makes its group ready
note_ready : (T : Table) (which : Which) (flags : WaitFlags) (r : ℕ) → is_some (ready_note T which flags r) ≡ true → is_empty (ready_for_starter T which flags) ≡ false
note_ready T which flags r e =
    let f = some_found (ready_note T which flags r) e in
    let g : Group = f.0 in
    let h = noter_among (filter (shows_note T which flags) T.groups) r g f.1 in
    let k = filter_among (shows_note T which flags) g T.groups h.0 in
    let p = and_parts (asks_for which g.tgid) _ k.1 in
    let q = and_parts (is_some (thread_of T g.tgid)) _ p.1 in
    let w = and_parts (not (has_traced T g.tgid)) _ q.1 in
    let shown : is_empty (if has_traced T g.tgid then [] else note_number flags g.note) ≡ false = rw (not-true _ w.0, w.1) (number_there r g.note h.1) in
    among_flat (ready_of_group T flags) g (led_groups T which) (led T which g k.0 p.0 q.0) (empty_right (death_number (thread_of T g.tgid)) _ shown)

starter_ready : (T : Table) (which : Which) (flags : WaitFlags) (r : ℕ) → (is_some (ready_death T which r) || is_some (ready_note T which flags r)) ≡ true → is_empty (ready_for_starter T which flags) ≡ false
starter_ready T which flags r e =
    elim (or_cases (is_some (ready_death T which r)) (is_some (ready_note T which flags r)) e) as (λ _. is_empty (ready_for_starter T which flags) ≡ false) [
      | inl h ↦ leader_ready T which flags r h
      | inr h ↦ note_ready T which flags r h
    ]

-- Nothing

never : (b : Bool) → nothing_where b ≡ Some reply.Nothing → b ≡ false → ⊥
never b e f = true≢false (sym (where_nothing b e) ∙ f)

pub nothing_is_exact : NothingIsExact
nothing_is_exact T a (event.Kill g s) c x e h = exists_is_something s e
nothing_is_exact T a (event.Tgkill g id s) c x e h = exists_is_something s e
nothing_is_exact T a (event.Sigqueue g s v) c x e h = exists_is_something s e
nothing_is_exact T a (event.Take id) c x e h = never _ e (ap not (thread_can T (thread_of T id) h.0 h.2))
nothing_is_exact T a (event.TakeAny g) c x e h = never _ e (ap not (member_can T g h.0 h.1 h.3 h.4))
nothing_is_exact T a (event.EventMessage id) c x e h = message_is_something (thread_of T id) e
nothing_is_exact T a (event.SignalInfo id) c x e h = siginfo_is_something (thread_of T id) e
nothing_is_exact T a event.TracerExit c x e h = x refl
nothing_is_exact T a (event.Wait which) c x e h = never _ e (tracee_ready T a which h.0 h.2)
nothing_is_exact T a (event.StarterWait which flags) c x e h = never _ e (starter_ready T which flags h.0 h.2)
nothing_is_exact T a _ c x e h = cc

-- This product's choices

something : (b : Bool) → nothing_where b ≡ None → b ≡ false
something true e = cc
something false e = refl

take_admitted : (T : Table) (o : Option Thread) → IsSorted T.waiting → can_take_thread T o ≡ true → (n : ℕ) × (take_choice T o ≡ takes_instance n) × (takes T o n ≡ true)
take_admitted T None s c = absurd (true≢false (sym c))
take_admitted T (Some t) s c = let h = taken_by_choice T t s c in (h.instance.n, ap taking h.best, h.found)

-- the first member that can take something takes
record FirstTaker (T : Table) (ts : List Thread) : Type 0 where
  thread : Thread
  among : Among thread ts
  can : can_take T thread ≡ true
  chosen : take_any_choice T ts ≡ taking_by thread.id (best_for T thread)

first_taker : (T : Table) (ts : List Thread) → list_any (can_take T) ts ≡ true → FirstTaker T ts
first_taker T [] e = absurd (true≢false (sym e))
first_taker T (t ∷ ts) e = go (can_take T t) refl (first_taker T ts) e
  where
    go : (b : Bool) → can_take T t ≡ b → (list_any (can_take T) ts ≡ true → FirstTaker T ts) → (b || list_any (can_take T) ts) ≡ true → FirstTaker T (t ∷ ts)
    go true h rest f = record { thread = t; among = inl refl; can = h; chosen = rw h refl }
    go false h rest f = let k = rest f in record { thread = k.thread; among = inr k.among; can = k.can; chosen = rw h k.chosen }

take_any_admitted : (T : Table) (g : ℕ) → DistinctIds T → IsSorted T.waiting → list_any (can_take T) (members T g) ≡ true
    → (id : ℕ) × (n : ℕ) × (take_any_choice T (members T g) ≡ takes_by id n) × (is_in g (thread_of T id) ≡ true) × (takes T (thread_of T id) n ≡ true)
take_any_admitted T g ids s e =
    let k = first_taker T (members T g) e in
    let t : Thread = k.thread in
    let m = filter_among (in_group g) t T.threads k.among in
    let found : thread_of T t.id ≡ Some t = found_by_id t T.threads ids m.0 in
    let h = taken_by_choice T t s k.can in
    (t.id, h.instance.n, k.chosen ∙ ap (taking_by t.id) h.best, ap (is_in g) found ∙ m.1, ap (λ o. takes T o h.instance.n) found ∙ h.found)

reported_by : (r : ℕ) (ns : List ℕ) (o : Option Report) → report_number o ≡ r ∷ ns → has_report r o ≡ true
reported_by r ns None e = cc
reported_by r ns (Some x) e = eq-eqb x.number r cc

reporter_found : (ts : List Thread) (r : ℕ) (t : Thread) → Among t ts → Reporter r t → is_some (with_report ts r) ≡ true
reporter_found [] r t m h = absurd m
reporter_found (x ∷ ts) r t (inl e) h = rw (subst (Reporter r) e h) refl
reporter_found (x ∷ ts) r t (inr m) h = elim (has_report r x.report) as (λ b. is_some (if b then Some x else with_report ts r) ≡ true) [ true ↦ refl | false ↦ reporter_found ts r t m h ]

noter_found : (gs : List Group) (r : ℕ) (g : Group) → Among g gs → has_report r g.note ≡ true → is_some (group_with_note gs r) ≡ true
noter_found [] r g m h = absurd m
noter_found (x ∷ gs) r g (inl e) h = rw (subst (λ z. has_report r z.note ≡ true) e h) refl
noter_found (x ∷ gs) r g (inr m) h = elim (has_report r x.note) as (λ b. is_some (if b then Some x else group_with_note gs r) ≡ true) [ true ↦ refl | false ↦ noter_found gs r g m h ]

wait_admitted : (T : Table) (a : ℕ) (which : Which) → is_empty (ready T a which) ≡ false → (r : ℕ) × (reporting (ready T a which) ≡ gives_report r) × (is_some (ready_thread T a which r) ≡ true)
wait_admitted T a which e =
    let f = first_of_flat (λ t. report_number t.report) (asked_tracees T a which) e in
    (f.first, ap reporting f.all, reporter_found (asked_tracees T a which) f.first f.from f.among (reported_by f.first f.more f.from.report f.is))

-- a group's first report is its dead leader's, or its note
record FirstOfGroup (T : Table) (flags : WaitFlags) (g : Group) (r : ℕ) : Type 0 where
  either : ((t : Thread) × (thread_of T g.tgid ≡ Some t) × (is_dead t.life ≡ true) × (not (is_traced t) ≡ true) × Reporter r t)
      ⊎ ((not (has_traced T g.tgid) ≡ true) × (note_wanted flags g.note ≡ true) × (has_report r g.note ≡ true))

first_of_group : (T : Table) (flags : WaitFlags) (g : Group) (r : ℕ) (ns : List ℕ) → ready_of_group T flags g ≡ r ∷ ns → FirstOfGroup T flags g r
first_of_group T flags g r ns e = go (thread_of T g.tgid) refl e
  where
    from_note : (b c : Bool) → has_traced T g.tgid ≡ b → note_wanted flags g.note ≡ c → (if b then [] else if c then report_number g.note else []) ≡ r ∷ ns → FirstOfGroup T flags g r
    from_note true c p q f = cc
    from_note false true p q f = record { either = inr (ap not p, q, reported_by r ns g.note f) }
    from_note false false p q f = cc

    note_left : (if has_traced T g.tgid then [] else note_number flags g.note) ≡ r ∷ ns → FirstOfGroup T flags g r
    note_left f = from_note (has_traced T g.tgid) (note_wanted flags g.note) refl refl f

    from_report : (t : Thread) → thread_of T g.tgid ≡ Some t → is_dead t.life ≡ true → not (is_traced t) ≡ true → (o : Option Report) → t.report ≡ o
        → (report_number o ++ (if has_traced T g.tgid then [] else note_number flags g.note)) ≡ r ∷ ns → FirstOfGroup T flags g r
    from_report t found dead free None h f = note_left f
    from_report t found dead free (Some x) h f = record { either = inl (t, found, dead, free, rw h (eq-eqb x.number r cc)) }

    from_leader : (t : Thread) → thread_of T g.tgid ≡ Some t → (b c : Bool) → is_dead t.life ≡ b → not (is_traced t) ≡ c
        → ((if b && c then report_number t.report else []) ++ (if has_traced T g.tgid then [] else note_number flags g.note)) ≡ r ∷ ns → FirstOfGroup T flags g r
    from_leader t found true true p q f = from_report t found p q t.report refl f
    from_leader t found true false p q f = note_left f
    from_leader t found false c p q f = note_left f

    go : (o : Option Thread) → thread_of T g.tgid ≡ o → (death_number o ++ (if has_traced T g.tgid then [] else note_number flags g.note)) ≡ r ∷ ns → FirstOfGroup T flags g r
    go None found f = note_left f
    go (Some t) found f = from_leader t found (is_dead t.life) (not (is_traced t)) refl refl f

death_found : (T : Table) (gs : List Group) (r : ℕ) (g : Group) → Among g gs → has_death r (thread_of T g.tgid) ≡ true → is_some (with_death T gs r) ≡ true
death_found T [] r g m h = absurd m
death_found T (x ∷ gs) r g (inl e) h = rw (subst (λ z. has_death r (thread_of T z.tgid) ≡ true) e h) (someone r (thread_of T x.tgid) (subst (λ z. has_death r (thread_of T z.tgid) ≡ true) e h))
  where
    someone : (r : ℕ) (o : Option Thread) → has_death r o ≡ true → is_some o ≡ true
    someone r None e = absurd (true≢false (sym e))
    someone r (Some t) e = refl
death_found T (x ∷ gs) r g (inr m) h = go (has_death r (thread_of T x.tgid)) (thread_of T x.tgid) refl (death_found T gs r g m h)
  where
    go : (b : Bool) (o : Option Thread) → has_death r o ≡ b → is_some (with_death T gs r) ≡ true → is_some (if b then o else with_death T gs r) ≡ true
    go true None e f = absurd (true≢false (sym e))
    go true (Some t) e f = refl
    go false o e f = f

starter_admitted : (T : Table) (which : Which) (flags : WaitFlags) → is_empty (ready_for_starter T which flags) ≡ false
    → (r : ℕ) × (reporting (ready_for_starter T which flags) ≡ gives_report r) × ((is_some (ready_death T which r) || is_some (ready_note T which flags r)) ≡ true)
starter_admitted T which flags e =
    let f = first_of_flat (ready_of_group T flags) (led_groups T which) e in
    let g : Group = f.from in
    let r : ℕ = f.first in
    let k = filter_among (λ x. asks_for which x.tgid && is_some (thread_of T x.tgid)) g T.groups f.among in
    let p = and_parts (asks_for which g.tgid) (is_some (thread_of T g.tgid)) k.1 in
    let w = first_of_group T flags g r f.more f.is in (
      r,
      ap reporting f.all,
      elim w.either as (λ _. (is_some (ready_death T which r) || is_some (ready_note T which flags r)) ≡ true) [
        | inl h ↦ or_left (is_some (ready_death T which r)) _ (death_found T (led_groups T which) r g f.among (ap (has_death r) h.1 ∙ and_from _ _ h.2 (and_from _ _ h.3 h.4)))
        | inr h ↦ or_right (is_some (ready_death T which r)) _ (noter_found (filter (shows_note T which flags) T.groups) r g
            (among_filter (shows_note T which flags) g T.groups k.0 (and_from _ _ p.0 (and_from _ _ p.1 (and_from _ _ h.0 h.1)))) h.2)
      ],
    )

clone_admitted : (T : Table) (o : Option Thread) (causes : Thread → List (Option Refusal)) → HasFreeId T → first_cause (thread_then o causes) ≡ None
    → (new : ℕ) × (clone_choice T o ≡ gives_id new) × (is_new T new ≡ true)
clone_admitted T None causes free e = cc
clone_admitted T (Some t) causes free e = (new_id T t.group, refl, new_id_is_new T t.group free)

-- a clone alone needs a free id
pub admitted_where_free : (T : Table) (a : ℕ) (e : Event) → ((id : ℕ) → e ≡ event.CloneThread id → HasFreeId T) → DistinctIds T → IsSorted T.waiting → cause_of T a e ≡ None → quiet_of T a e ≡ None → Admits T a e (preferred T a e)
admitted_where_free T a (event.Take id) free ids s c q = take_admitted T (thread_of T id) s (not-false _ (something _ q))
admitted_where_free T a (event.TakeAny g) free ids s c q = take_any_admitted T g ids s (not-false _ (something _ q))
admitted_where_free T a (event.Wait which) free ids s c q = wait_admitted T a which (something _ q)
admitted_where_free T a (event.StarterWait which flags) free ids s c q = starter_admitted T which flags (something _ q)
admitted_where_free T a (event.CloneThread id) free ids s c q = clone_admitted T (thread_of T id) _ (free id refl) c
admitted_where_free T a _ free ids s c q = refl

pub preferred_is_admitted : PreferredIsAdmitted
preferred_is_admitted T a e free = admitted_where_free T a e (λ id is. free)
