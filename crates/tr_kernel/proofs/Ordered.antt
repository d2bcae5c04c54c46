-- Two takes from one queue, by the notes.
use Rattle.std.proofs.Common.{◌≡◌, ℕ, zero, suc, ◌+◌, ◌<◌, List, [], ◌∷◌, ◌++◌, take, drop, Option, Some, None, refl, sym, ap, ◌∙◌, subst, arith, inl, inr, Bool, true, false, ◌==◌, if◌then◌else◌, append-nil}
use Rattle.std.proofs.lemmas.Bool.{eqb-true}
use Rattle.std.proofs.lemmas.Option.{none-some, same_Some}
use Rattle.std.specs.Prelude.{slice_get}
use Rattle.tr_tracee.specs.declared.thread.Thread.{Thread}
use Rattle.tr_model.specs.Choices.{Choice}
use Rattle.tr_model.specs.Entries.{Entry}
use Rattle.tr_model.specs.declared.events.Event.{Event}
use Rattle.tr_model.specs.declared.events.Event.TheVariants as event
use Rattle.tr_model.specs.declared.rows.Target.{Target}
use Rattle.tr_model.specs.declared.rows.Target.TheVariants as target
use Rattle.tr_model.specs.Journals.{IsIn, Taken, occurs, renamed_by, taken, taken_of}
use Rattle.tr_model.specs.Laws.{PassesOn}
use Rattle.tr_model.specs.Steps
use Rattle.tr_model.specs.Steps.{work_of}
use Rattle.tr_model.specs.Tables.{Table, thread_of}
use Rattle.tr_model.specs.Waits.{ready_thread}
use Rattle.tr_model.proofs.Names.{take_renames_nothing}
use Rattle.tr_model.proofs.Among.{occurs-append}
use Rattle.tr_model.proofs.Order.{in_order}
use Rattle.tr_model.proofs.Standing.{occurs-in}
use Rattle.tr_starts.specs.Starts.{table_of}
use Rattle.tr_kernel.specs.declared.notes.EntryFact.{EntryFact}
use Rattle.tr_kernel.specs.declared.notes.EntryFact.TheVariants.{Nothing, Stop, Take, Exec}
use Rattle.tr_kernel.specs.declared.notes.Stopped.{Stopped}
use Rattle.tr_kernel.specs.declared.notes.TakenFrom.{TakenFrom}
use Rattle.tr_kernel.specs.Laws.{TakenInOrder, TakesAt, TwoTakes}
use Rattle.tr_kernel.specs.Notes.{exec_fact, fact_of, notes_of, transfers_of, shows_stop, stop_fact, take_fact}
use Rattle.tr_kernel.specs.Positions.{between, table_at}
use Rattle.tr_kernel.specs.Private.{SameQueue, fact_at}
use Rattle.tr_kernel.specs.States.{IsHistory, State}
use Rattle.tr_kernel.proofs.Begun.{is_start}
use Rattle.tr_kernel.proofs.Cuts.{cut, renamed_next, renamed_split, replay_between, table_take}
use Rattle.tr_kernel.proofs.Noticed.{mark_is, marked_there}

nothing_take : (x : TakenFrom) → Nothing ≡ Take x → ⊥
nothing_take x e = cc

stop_take : (s : Stopped) (x : TakenFrom) → Stop s ≡ Take x → ⊥
stop_take s x e = cc

exec_take : (g : ℕ) (x : TakenFrom) → Exec g ≡ Take x → ⊥
exec_take g x e = cc

same_take : (x y : TakenFrom) → Take x ≡ Take y → x ≡ y
same_take x y e = cc

abbrev as_noted : List ℕ → Taken → TakenFrom
as_noted ids k = record { number = k.number; signal = k.signal; queue = k.queue; transfers = transfers_of ids k.queue }

-- The fact of an entry is a take exactly where the entry took something

stops_no_take : (o : Option Thread) (x : TakenFrom) → stop_fact o ≡ Take x → ⊥
stops_no_take None x e = nothing_take x e
stops_no_take (Some t) x e = go (shows_stop t.report) e
  where
    go : (b : Bool) → (if b then Stop (record { thread = t.id; group = t.group }) else Nothing) ≡ Take x → ⊥
    go true q = stop_take _ x q
    go false q = nothing_take x q

execs_no_take : (o : Option Thread) (x : TakenFrom) → exec_fact o ≡ Take x → ⊥
execs_no_take None x e = nothing_take x e
execs_no_take (Some t) x e = exec_take t.group x e

takes_some : (ids : List ℕ) (o : Option Taken) (x : TakenFrom) → take_fact ids o ≡ Take x → (k : Taken) × (o ≡ Some k) × (x ≡ as_noted ids k)
takes_some ids None x e = absurd (nothing_take x e)
takes_some ids (Some k) x e = (k, refl, sym (same_take (as_noted ids k) x e))

mark_takes : (ids : List ℕ) (T : Table) (a : ℕ) (e : Event) (c : Choice) (x : TakenFrom) → fact_of ids T a e c ≡ Take x → (k : Taken) × (taken_of T e c ≡ Some k) × (x ≡ as_noted ids k)
mark_takes ids T a (event.Wait which) c x q = absurd (stops_no_take (ready_thread T a which (Steps.number c.report)) x q)
mark_takes ids T a (event.Take id) c x q = takes_some ids (taken_of T (event.Take id) c) x q
mark_takes ids T a (event.TakeAny g) c x q = takes_some ids (taken_of T (event.TakeAny g) c) x q
mark_takes ids T a (event.Exec id) c x q = absurd (execs_no_take (thread_of T id) x q)
mark_takes ids T a _ c x q = absurd (nothing_take x q)

takes_mark : (ids : List ℕ) (T : Table) (a : ℕ) (e : Event) (c : Choice) (k : Taken) → taken_of T e c ≡ Some k → fact_of ids T a e c ≡ Take (as_noted ids k)
takes_mark ids T a (event.Take id) c k q = ap (take_fact ids) q
takes_mark ids T a (event.TakeAny g) c k q = ap (take_fact ids) q
takes_mark ids T a e c k q = absurd (none-some k q)

-- A take at a position

pub record TakeThere (T : Table) (es : List Entry) (p : ℕ) (x : TakenFrom) : Type 0 where
  pub place : ℕ
  pub position : p ≡ suc place
  pub entry : Entry
  pub found : slice_get es place ≡ Some entry
  pub kind : Taken
  pub took : taken (table_at T es place) entry ≡ Some kind
  pub noted : x ≡ as_noted (renamed_by T (take place es)) kind

pub take_there : (T : Table) (es : List Entry) (p : ℕ) (x : TakenFrom) → fact_at (notes_of T es) p ≡ Take x → TakeThere T es p x
take_there T es p x q =
    let m = marked_there T es p (Take x) q (nothing_take x) in
    let t = mark_takes (renamed_by T (take m.0 es)) (table_at T es m.0) m.1.actor m.1.event m.1.choice x (sym (mark_is T es m.0 m.1 m.3) ∙ (ap (fact_at (notes_of T es)) (sym m.2) ∙ q)) in
    record { place = m.0; position = m.2; entry = m.1; found = m.3; kind = t.0; took = t.1; noted = t.2 }

pub takes_at : (T : Table) (es : List Entry) (p : ℕ) (x : TakenFrom) → (t : TakeThere T es p x) → TakesAt T es p t.kind
takes_at T es p x t = subst (λ n. TakesAt T es n t.kind) (sym t.position) (t.entry, t.found, t.took)

pub noted_take : (T : Table) (es : List Entry) (p : ℕ) (k : Taken) → TakesAt T es p k → (x : TakenFrom) × (fact_at (notes_of T es) p ≡ Take x) × ((t : TakeThere T es p x) × (t.kind ≡ k))
noted_take T es zero k t = absurd (none-some t.0 t.1)
noted_take T es (suc n) k t =
    let x = as_noted (renamed_by T (take n es)) k in
    (x, mark_is T es n t.0 t.1 ∙ takes_mark (renamed_by T (take n es)) (table_at T es n) t.0.actor t.0.event t.0.choice k t.2, (record { place = n; position = refl; entry = t.0; found = t.1; kind = k; took = t.2; noted = refl }, refl))

-- Ids that pass on between

passed_between : (T : Table) (es : List Entry) (i j : ℕ) (e : Entry) (k : Taken) → i < j → slice_get es i ≡ Some e → taken (table_at T es i) e ≡ Some k
    → (id : ℕ) → occurs id (renamed_by T (take j es)) ≡ occurs id (renamed_by T (take i es)) + occurs id (renamed_by (table_at T es (suc i)) (drop (suc i) (take j es)))
passed_between T es i j e k l q t id =
    let s = renamed_split T (take j es) (suc i) in
    let n : renamed_by T (take (suc i) (take j es)) ≡ renamed_by T (take i es)
    = ap (renamed_by T) (take_take es i j l) ∙ (renamed_next T es i e q ∙ (ap (λ ys. renamed_by T (take i es) ++ ys) (take_renames_nothing (table_at T es i) e.actor e.event e.choice k t) ∙ append-nil (renamed_by T (take i es)))) in
    ap (occurs id) s ∙ (occurs-append id (renamed_by T (take (suc i) (take j es))) (renamed_by (table_at T (take j es) (suc i)) (drop (suc i) (take j es)))
    ∙ (ap (λ ys. occurs id ys + occurs id (renamed_by (table_at T (take j es) (suc i)) (drop (suc i) (take j es)))) n
    ∙ ap (λ M. occurs id (renamed_by T (take i es)) + occurs id (renamed_by M (drop (suc i) (take j es)))) (table_take T es j (suc i) (omega arith))))
  where
    take_take : (es : List Entry) (i j : ℕ) → i < j → take (suc i) (take j es) ≡ take (suc i) es
    take_take es i zero l = absurd (omega arith)
    take_take [] i (suc j) l = refl
    take_take (x ∷ es) zero (suc j) l = refl
    take_take (x ∷ es) (suc i) (suc j) l = ap (λ ys. x ∷ ys) (take_take es i j (omega arith))

no_occurs : (n : ℕ) (xs : List ℕ) → (IsIn n xs → ⊥) → occurs n xs ≡ 0
no_occurs n [] m = refl
no_occurs n (x ∷ xs) m = go (x == n) refl (no_occurs n xs (λ i. m (inr i)))
  where
    go : (b : Bool) → (x == n) ≡ b → occurs n xs ≡ 0 → (if b then 1 else 0) + occurs n xs ≡ 0
    go true h r = absurd (m (inl (eqb-true x n h)))
    go false h r = omega (arith, r)

-- by the notes the queue's id passed on equally often exactly where it didn't pass on between
keeps_by : (T : Table) (es : List Entry) (i j : ℕ) (e : Entry) (k : Taken) → i < j → slice_get es i ≡ Some e → taken (table_at T es i) e ≡ Some k
    → (q : Target) → transfers_of (renamed_by T (take i es)) q ≡ transfers_of (renamed_by T (take j es)) q → PassesOn q (renamed_by (table_at T es (suc i)) (drop (suc i) (take j es))) → ⊥
keeps_by T es i j e k l f t (target.Group g) p m = m
keeps_by T es i j e k l f t (target.Thread id) p m = omega (arith, passed_between T es i j e k l f t id, occurs-in id _ m, p)

by_keeping : (T : Table) (es : List Entry) (i j : ℕ) (e : Entry) (k : Taken) → i < j → slice_get es i ≡ Some e → taken (table_at T es i) e ≡ Some k
    → (q : Target) → (PassesOn q (renamed_by (table_at T es (suc i)) (drop (suc i) (take j es))) → ⊥) → transfers_of (renamed_by T (take i es)) q ≡ transfers_of (renamed_by T (take j es)) q
by_keeping T es i j e k l f t (target.Group g) m = refl
by_keeping T es i j e k l f t (target.Thread id) m = omega (arith, passed_between T es i j e k l f t id, no_occurs id _ m)

-- The law

pub two_by_notes : (T : Table) (es : List Entry) (i j : ℕ) (x y : TakenFrom) → fact_at (notes_of T es) i ≡ Take x → fact_at (notes_of T es) j ≡ Take y → i < j → SameQueue x y → TwoTakes T es i j
two_by_notes T es i j x y m n l s =
    let a = take_there T es i x m in
    let b = take_there T es j y n in
    let signal : a.kind.signal ≡ b.kind.signal = sym (ap (λ (z : TakenFrom). z.signal) a.noted) ∙ (s.signal ∙ ap (λ (z : TakenFrom). z.signal) b.noted) in
    let queue : a.kind.queue ≡ b.kind.queue = sym (ap (λ (z : TakenFrom). z.queue) a.noted) ∙ (s.queue ∙ ap (λ (z : TakenFrom). z.queue) b.noted) in
    let transfers : transfers_of (renamed_by T (take a.place es)) a.kind.queue ≡ transfers_of (renamed_by T (take b.place es)) a.kind.queue
    = sym (ap (λ (z : TakenFrom). z.transfers) a.noted) ∙ (s.transfers ∙ (ap (λ (z : TakenFrom). z.transfers) b.noted ∙ ap (transfers_of (renamed_by T (take b.place es))) (sym queue))) in
    let keep = keeps_by T es a.place b.place a.entry a.kind (omega (arith, a.position, b.position)) a.found a.took a.kind.queue transfers in (
      l,
      (
        a.kind,
        b.kind,
        takes_at T es i x a,
        takes_at T es j y b,
        signal,
        queue,
        subst (λ p. PassesOn a.kind.queue (renamed_by (table_at T es p) (between es p j)) → ⊥) (sym a.position) (subst (λ q. PassesOn a.kind.queue (renamed_by (table_at T es (suc a.place)) (between es (suc a.place) q)) → ⊥) (sym b.position) keep),
      ),
    )

pub notes_of_two : (T : Table) (es : List Entry) (i j : ℕ) → TwoTakes T es i j → (i < j) × ((x y : TakenFrom) × (fact_at (notes_of T es) i ≡ Take x) × (fact_at (notes_of T es) j ≡ Take y) × SameQueue x y)
notes_of_two T es zero j w = absurd (none-some w.1.2.0 w.1.2.1)
notes_of_two T es (suc i) zero w = absurd (none-some w.1.3.0 w.1.3.1)
notes_of_two T es (suc i) (suc j) w =
    let k = w.1.0 in
    let l = w.1.1 in
    let a = w.1.2 in
    let b = w.1.3 in
    let signal = w.1.4 in
    let queue = w.1.5 in
    let keep = w.1.6 in
    let less : i < j = omega (arith, w.0) in (
      w.0,
      (
        as_noted (renamed_by T (take i es)) k,
        as_noted (renamed_by T (take j es)) l,
        mark_is T es i a.0 a.1 ∙ takes_mark (renamed_by T (take i es)) (table_at T es i) a.0.actor a.0.event a.0.choice k a.2,
        mark_is T es j b.0 b.1 ∙ takes_mark (renamed_by T (take j es)) (table_at T es j) b.0.actor b.0.event b.0.choice l b.2,
        record { signal = signal; queue = queue; transfers = by_keeping T es i j a.0 k less a.1 a.2 k.queue keep ∙ ap (transfers_of (renamed_by T (take j es))) queue },
      ),
    )

same_taken : (T : Table) (es : List Entry) (p : ℕ) (x y : Taken) → TakesAt T es (suc p) x → TakesAt T es (suc p) y → x ≡ y
same_taken T es p x y u v = same_Some x y (sym u.2 ∙ (ap (taken (table_at T es p)) (same_Some u.0 v.0 (sym u.1 ∙ v.1)) ∙ v.2))

pub taken_in_order : (k : State) → IsHistory k → (i j : ℕ) → TwoTakes (table_of k.start) k.journal i j → TakenInOrder (table_of k.start) k.journal i j
taken_in_order k h zero j w m n a b = absurd (none-some a.0 a.1)
taken_in_order k h (suc i) zero w m n a b = absurd (none-some b.0 b.1)
taken_in_order k h (suc i) (suc j) w m n a b =
    let T = table_of k.start in
    let es = k.journal in
    let less : i < j = omega (arith, w.0) in
    let first = cut i T k.table es k.replies a.0 h.replayed a.1 in
    let second = cut j T k.table es k.replies b.0 h.replayed b.1 in
    let between_them = replay_between i j T es k.replies a.0 second.earlier less a.1 in
    let x = same_taken T es i w.1.0 m w.1.2 a in
    let y = same_taken T es j w.1.1 n w.1.3 b in
    let signal : m.signal ≡ n.signal = ap (λ (z : Taken). z.signal) (sym x) ∙ (w.1.4 ∙ ap (λ (z : Taken). z.signal) y) in
    let queue : m.queue ≡ n.queue = ap (λ (z : Taken). z.queue) (sym x) ∙ (w.1.5 ∙ ap (λ (z : Taken). z.queue) y) in
    let keep = subst (λ (z : Taken). PassesOn z.queue (renamed_by (table_at T es (suc i)) (drop (suc i) (take j es))) → ⊥) x w.1.6 in
    in_order T (table_at T es i) (table_at T es (suc i)) (table_at T es j) (table_at T es (suc j)) (take i es) (drop (suc i) (take j es)) (take i k.replies) (drop (suc i) (take j k.replies)) a.0 b.0 first.reply second.reply (is_start k.start h.good) first.earlier first.step between_them second.step m n a.2 b.2 signal queue keep

-- In the words of the call

pub no_take_first : (T : Table) (es : List Entry) (i j : ℕ) (m : EntryFact) → m ≡ fact_at (notes_of T es) i → ((x : TakenFrom) → m ≡ Take x → ⊥) → TwoTakes T es i j → ⊥
no_take_first T es i j m e n w = let h = notes_of_two T es i j w in n h.1.0 (e ∙ h.1.2)

pub no_take_second : (T : Table) (es : List Entry) (i j : ℕ) (m : EntryFact) → m ≡ fact_at (notes_of T es) j → ((x : TakenFrom) → m ≡ Take x → ⊥) → TwoTakes T es i j → ⊥
no_take_second T es i j m e n w = let h = notes_of_two T es i j w in n h.1.1 (e ∙ h.1.3)

pub two_takes_same : (T : Table) (es : List Entry) (i j : ℕ) (x y : TakenFrom) → fact_at (notes_of T es) i ≡ Take x → fact_at (notes_of T es) j ≡ Take y → TwoTakes T es i j → SameQueue x y
two_takes_same T es i j x y m n w =
    let h = notes_of_two T es i j w in
    subst (λ z. SameQueue z y) (same_take h.1.0 x (sym h.1.2 ∙ m)) (subst (λ z. SameQueue h.1.0 z) (same_take h.1.1 y (sym h.1.3 ∙ n)) h.1.4)
