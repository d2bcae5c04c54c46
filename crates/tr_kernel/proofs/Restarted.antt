-- A restart between two stops, by the notes.
use Rattle.std.proofs.Common.{◌≡◌, ◌≢◌, ℕ, zero, suc, ◌+◌, ◌-◌, ◌<◌, ◌≤◌, List, [], ◌∷◌, length, take, drop, get_or, Option, Some, None, refl, sym, ap, ap₂, ◌∙◌, subst, arith, length-take, ◌⊎◌, inl, inr, ◌↔◌, Bool, true, false, true≢false, not, ◌&&◌, ◌||◌, ◌==◌, if◌then◌else◌}
use Rattle.std.proofs.lemmas.Bool.{and_parts, eq-eqb, eqb-true, eqb-false, ne_eqb}
use Rattle.std.proofs.lemmas.Option.{none-some, same_Some, slice_get_read, slice_get_within}
use Rattle.std.specs.List.{list_any}
use Rattle.std.specs.Prelude.{IfSome, IsSome, slice_get}
use Rattle.tr_wait.specs.declared.status.Status.{Status}
use Rattle.tr_wait.specs.declared.status.Status.TheVariants as status
use Rattle.tr_tracee.specs.declared.thread.Report.{Report}
use Rattle.tr_tracee.specs.declared.thread.Thread.{Thread}
use Rattle.tr_model.specs.Choices.{Choice}
use Rattle.tr_model.specs.Entries.{Entry}
use Rattle.tr_model.specs.declared.events.Event.{Event}
use Rattle.tr_model.specs.declared.events.Event.TheVariants as event
use Rattle.tr_model.specs.Journals.{IsIn, Taken, renamed_by, taken_of}
use Rattle.tr_model.specs.Laws.{ConsumesStop, IsRestart, IsStopStatus, Restarts, SomeRestarts}
use Rattle.tr_model.specs.Steps.{Admits, number, work_of}
use Rattle.tr_model.specs.Tables.{Table, thread_of}
use Rattle.tr_model.specs.Waits.{ready_thread}
use Rattle.tr_model.proofs.Between.{restart_stands}
use Rattle.tr_starts.specs.Starts.{table_of}
use Rattle.tr_wait.specs.declared.waits.Which.{Which}
use Rattle.tr_kernel.specs.declared.notes.EntryFact.{EntryFact}
use Rattle.tr_kernel.specs.declared.notes.EntryFact.TheVariants.{Nothing, Stop, Take, Exec}
use Rattle.tr_kernel.specs.declared.notes.Stopped.{Stopped}
use Rattle.tr_kernel.specs.declared.notes.TakenFrom.{TakenFrom}
use Rattle.tr_kernel.specs.Laws.{RestartBetween, RestartsAt, StopsAt, TwoStops}
use Rattle.tr_kernel.specs.Notes.{dying_by, exec_fact, is_stop_status, fact_of, notes_of, shows_stop, stop_fact, take_fact}
use Rattle.tr_kernel.specs.Positions.{entry_at, table_at}
use Rattle.tr_kernel.specs.Private.{IsRestartAt, dying_at, is_exec_in, is_restart, fact_at, restarts_at, restarts_here}
use Rattle.tr_kernel.specs.States.{IsHistory, State}
use Rattle.tr_kernel.proofs.Begun.{is_start}
use Rattle.tr_kernel.proofs.Cuts.{cut, dying_there, get_drop, get_take, replay_between, some_there, table_drop, table_take}
use Rattle.tr_kernel.proofs.Noticed.{deaths_after, deaths_is, mark_is, marked_there, note_is}

nothing_stop : (s : Stopped) → Nothing ≡ Stop s → ⊥
nothing_stop s e = cc

take_stop : (x : TakenFrom) (s : Stopped) → Take x ≡ Stop s → ⊥
take_stop x s e = cc

exec_stop : (g : ℕ) (s : Stopped) → Exec g ≡ Stop s → ⊥
exec_stop g s e = cc

same_stop : (s r : Stopped) → Stop s ≡ Stop r → s ≡ r
same_stop s r e = cc

abbrev as_stopped : Thread → Stopped
as_stopped t = record { thread = t.id; group = t.group }

-- The fact of an entry is a stop exactly where the entry consumed a stop report

status_stops : (s : Status) → is_stop_status s ≡ true → IsStopStatus s
status_stops (status.Exited c) e = absurd (true≢false (sym e))
status_stops (status.Killed s) e = absurd (true≢false (sym e))
status_stops status.Continued e = absurd (true≢false (sym e))
status_stops _ e = tt

stops_status : (s : Status) → IsStopStatus s → is_stop_status s ≡ true
stops_status (status.Exited c) e = absurd e
stops_status (status.Killed s) e = absurd e
stops_status status.Continued e = absurd e
stops_status _ e = refl

report_stops : (o : Option Report) → shows_stop o ≡ true → (x : Report) × (o ≡ Some x) × IsStopStatus x.status
report_stops None e = absurd (true≢false (sym e))
report_stops (Some x) e = (x, refl, status_stops x.status e)

stop_some : (o : Option Thread) (s : Stopped) → stop_fact o ≡ Stop s → (t : Thread) × (o ≡ Some t) × (shows_stop t.report ≡ true) × (s ≡ as_stopped t)
stop_some None s q = absurd (nothing_stop s q)
stop_some (Some t) s q = go (shows_stop t.report) refl q
  where
    go : (b : Bool) → shows_stop t.report ≡ b → (if b then Stop (as_stopped t) else Nothing) ≡ Stop s → (u : Thread) × (Some t ≡ Some u) × (shows_stop u.report ≡ true) × (s ≡ as_stopped u)
    go true h r = (t, refl, h, sym (same_stop (as_stopped t) s r))
    go false h r = absurd (nothing_stop s r)

takes_no_stop : (ids : List ℕ) (o : Option Taken) (s : Stopped) → take_fact ids o ≡ Stop s → ⊥
takes_no_stop ids None s q = nothing_stop s q
takes_no_stop ids (Some k) s q = take_stop _ s q

execs_no_stop : (o : Option Thread) (s : Stopped) → exec_fact o ≡ Stop s → ⊥
execs_no_stop None s q = nothing_stop s q
execs_no_stop (Some t) s q = exec_stop t.group s q

-- the entry's event and choice, of which the wait is
record Waits (T : Table) (a : ℕ) (e : Event) (c : Choice) (s : Stopped) : Type 0 where
  which : Which
  thread : Thread
  wait : e ≡ event.Wait which
  ready : ready_thread T a which (number c.report) ≡ Some thread
  shows : shows_stop thread.report ≡ true
  stopped : s ≡ as_stopped thread

mark_stops : (ids : List ℕ) (T : Table) (a : ℕ) (e : Event) (c : Choice) (s : Stopped) → fact_of ids T a e c ≡ Stop s → Waits T a e c s
mark_stops ids T a (event.Wait which) c s q = let t = stop_some (ready_thread T a which (number c.report)) s q in record { which = which; thread = t.0; wait = refl; ready = t.1; shows = t.2; stopped = t.3 }
mark_stops ids T a (event.Take id) c s q = absurd (takes_no_stop ids (taken_of T (event.Take id) c) s q)
mark_stops ids T a (event.TakeAny g) c s q = absurd (takes_no_stop ids (taken_of T (event.TakeAny g) c) s q)
mark_stops ids T a (event.Exec id) c s q = absurd (execs_no_stop (thread_of T id) s q)
mark_stops ids T a _ c s q = absurd (nothing_stop s q)

gives : (T : Table) (a : ℕ) (e : Event) (c : Choice) (which : Which) → Admits T a e c → e ≡ event.Wait which → (r : ℕ) × (c.report ≡ Some r)
gives T a e c which h w = let k = subst (λ x. Admits T a x c) w h in (k.0, ap (λ (x : Choice). x.report) k.1)

consumes : (T : Table) (e : Entry) (s : Stopped) → Admits T e.actor e.event e.choice → Waits T e.actor e.event e.choice s → (t : Thread) × ConsumesStop T e t × (s ≡ as_stopped t)
consumes T e s h w =
    let r = gives T e.actor e.event e.choice w.which h w.wait in
    let x = report_stops w.thread.report w.shows in
    (w.thread, (w.which, r.0, x.0, w.wait, r.1, subst (λ o. ready_thread T e.actor w.which (number o) ≡ Some w.thread) r.1 w.ready, x.1, x.2), w.stopped)

stops_mark : (ids : List ℕ) (T : Table) (e : Entry) (t : Thread) → ConsumesStop T e t → fact_of ids T e.actor e.event e.choice ≡ Stop (as_stopped t)
stops_mark ids T e t (which, r, x, wait, report, ready, has, stops) =
    let o : ready_thread T e.actor which (number e.choice.report) ≡ Some t = ap (λ o. ready_thread T e.actor which (number o)) report ∙ ready in
    let b : shows_stop t.report ≡ true = ap shows_stop has ∙ stops_status x.status stops in
    ap (λ v. fact_of ids T e.actor v e.choice) wait ∙ (ap stop_fact o ∙ ap (λ v. if v then Stop (as_stopped t) else Nothing) b)

-- A stop at a position

pub record StopThere (T : Table) (es : List Entry) (p : ℕ) (s : Stopped) : Type 0 where
  pub place : ℕ
  pub position : p ≡ suc place
  pub entry : Entry
  pub thread : Thread
  pub found : slice_get es place ≡ Some entry
  pub stops : ConsumesStop (table_at T es place) entry thread
  pub stopped : s ≡ as_stopped thread

pub stop_there : (k : State) → IsHistory k → (p : ℕ) (s : Stopped) → fact_at (notes_of (table_of k.start) k.journal) p ≡ Stop s → StopThere (table_of k.start) k.journal p s
stop_there k h p s q =
    let T = table_of k.start in
    let m = marked_there T k.journal p (Stop s) q (nothing_stop s) in
    let c = cut m.0 T k.table k.journal k.replies m.1 h.replayed m.3 in
    let w = mark_stops (renamed_by T (take m.0 k.journal)) (table_at T k.journal m.0) m.1.actor m.1.event m.1.choice s (sym (mark_is T k.journal m.0 m.1 m.3) ∙ (ap (fact_at (notes_of T k.journal)) (sym m.2) ∙ q)) in
    let t = consumes (table_at T k.journal m.0) m.1 s c.step.choice w in
    record { place = m.0; position = m.2; entry = m.1; thread = t.0; found = m.3; stops = t.1; stopped = t.2 }

stops_at : (T : Table) (es : List Entry) (p : ℕ) (s : Stopped) → (x : StopThere T es p s) → StopsAt T es p x.entry x.thread
stops_at T es p s x = subst (λ n. StopsAt T es n x.entry x.thread) (sym x.position) (x.found, x.stops)

noted_stop : (T : Table) (es : List Entry) (p : ℕ) (e : Entry) (t : Thread) → StopsAt T es p e t → fact_at (notes_of T es) p ≡ Stop (as_stopped t)
noted_stop T es zero e t x = absurd (none-some e x.0)
noted_stop T es (suc n) e t x = mark_is T es n e x.0 ∙ stops_mark (renamed_by T (take n es)) (table_at T es n) e t x.1

pub stops_by_notes : (k : State) → IsHistory k → (i j : ℕ) (s r : Stopped) → fact_at (notes_of (table_of k.start) k.journal) i ≡ Stop s → fact_at (notes_of (table_of k.start) k.journal) j ≡ Stop r → i < j → s.thread ≡ r.thread → TwoStops (table_of k.start) k.journal i j
stops_by_notes k h i j s r m n l e =
    let T = table_of k.start in
    let a = stop_there k h i s m in
    let b = stop_there k h j r n in
    (l, (a.entry, b.entry, a.thread, b.thread, stops_at T k.journal i s a, stops_at T k.journal j r b, sym (ap (λ (z : Stopped). z.thread) b.stopped) ∙ (sym e ∙ ap (λ (z : Stopped). z.thread) a.stopped)))

pub notes_of_stops : (T : Table) (es : List Entry) (i j : ℕ) → TwoStops T es i j → (i < j) × ((s r : Stopped) × (fact_at (notes_of T es) i ≡ Stop s) × (fact_at (notes_of T es) j ≡ Stop r) × (s.thread ≡ r.thread))
notes_of_stops T es i j (l, (e, f, t, u, a, b, same)) = (l, (as_stopped t, as_stopped u, noted_stop T es i e t a, noted_stop T es j f u b, sym same))

-- Restarts

exec_is : (id g : ℕ) (T : Table) (x : ℕ) → ((not (x == id) && is_exec_in g (exec_fact (thread_of T x))) ≡ true) ↔ ((x ≢ id) × ((t : Thread) × (thread_of T x ≡ Some t) × (t.group ≡ g)))
exec_is id g T x = (λ q. let p = and_parts (not (x == id)) (is_exec_in g (exec_fact (thread_of T x))) q in (differs p.0, found (thread_of T x) p.1), λ h. both h.0 (thread_of T x) h.1)
  where
    differs : not (x == id) ≡ true → x ≢ id
    differs q e = absurd (true≢false (sym q ∙ ap not (eq-eqb x id e)))

    found : (o : Option Thread) → is_exec_in g (exec_fact o) ≡ true → (t : Thread) × (o ≡ Some t) × (t.group ≡ g)
    found None q = absurd (true≢false (sym q))
    found (Some t) q = (t, refl, eqb-true t.group g q)

    both : (x ≢ id) → (o : Option Thread) → (t : Thread) × (o ≡ Some t) × (t.group ≡ g) → (not (x == id) && is_exec_in g (exec_fact o)) ≡ true
    both d None h = absurd (none-some h.0 h.1)
    both d (Some t) h = ap₂ (λ a b. not a && b) (ne_eqb x id d) (eq-eqb t.group g (ap (λ (z : Thread). z.group) (same_Some t h.0 h.1) ∙ h.2))

same_number : (m n : ℕ) → ((m == n) ≡ true) ↔ (m ≡ n)
same_number m n = (eqb-true m n, eq-eqb m n)

restart_is : (s : Stopped) (a : ℕ) (ids : List ℕ) (T : Table) (b : ℕ) (e : Event) (c : Choice) → (is_restart s a b e (fact_of ids T b e c) ≡ true) ↔ IsRestart s.thread a s.group T b e
restart_is s a ids T b (event.Cont x sig) c = same_number x s.thread
restart_is s a ids T b (event.Listen x) c = same_number x s.thread
restart_is s a ids T b (event.Detach x sig) c = same_number x s.thread
restart_is s a ids T b event.TracerExit c = same_number b a
restart_is s a ids T b (event.Exec x) c = exec_is s.thread s.group T x
restart_is s a ids T b _ c = (λ q. absurd (true≢false (sym q)), λ h. absurd h)

any_in : (g : ℕ) (xs : List ℕ) → (list_any (λ h. h == g) xs ≡ true) ↔ IsIn g xs
any_in g [] = (λ q. absurd (true≢false (sym q)), λ h. absurd h)
any_in g (x ∷ xs) = go (x == g) refl (any_in g xs)
  where
    go : (b : Bool) → (x == g) ≡ b → (list_any (λ h. h == g) xs ≡ true) ↔ IsIn g xs → ((b || list_any (λ h. h == g) xs) ≡ true) ↔ ((x ≡ g) ⊎ IsIn g xs)
    go true q r = (λ t. inl (eqb-true x g q), λ h. refl)
    go false q r = (λ t. inr (r.0 t), λ h. elim h [ inl e ↦ absurd (eqb-false x g q e) | inr m ↦ r.1 m ])

either_is : (a b : Bool) (A B : Type 0) → (a ≡ true) ↔ A → (b ≡ true) ↔ B → ((a || b) ≡ true) ↔ (A ⊎ B)
either_is true b A B p q = (λ t. inl (p.0 refl), λ h. refl)
either_is false b A B p q = (λ t. inr (q.0 t), λ h. elim h [ inl x ↦ absurd (true≢false (sym (p.1 x))) | inr y ↦ q.1 y ])

-- by the notes an entry restarts exactly where it does
pub restarts_is : (s : Stopped) (a : ℕ) (T : Table) (es : List Entry) (k : ℕ) (e : Entry) → slice_get es k ≡ Some e
    → (restarts_at s a es (notes_of T es) (dying_by T es) k ≡ true) ↔ Restarts s.thread a s.group (table_at T es k) e
restarts_is s a T es k e q =
    let ids = renamed_by T (take k es) in
    let M = table_at T es k in
    let gs : dying_at (notes_of T es) (dying_by T es) k ≡ (work_of M e).dying
    = ap₂ (λ n d. take n (drop d (dying_by T es))) (deaths_after T es k e q) (deaths_is T es k (let l = slice_get_within es k e q in omega arith)) ∙ dying_there T es k e q in
    let same : restarts_at s a es (notes_of T es) (dying_by T es) k ≡ (is_restart s a e.actor e.event (fact_of ids M e.actor e.event e.choice) || list_any (λ h. h == s.group) (work_of M e).dying)
    = ap₂ (λ o n. restarts_here s a o n (dying_at (notes_of T es) (dying_by T es) k)) q (note_is T es k e q) ∙ ap (λ ys. is_restart s a e.actor e.event (fact_of ids M e.actor e.event e.choice) || list_any (λ h. h == s.group) ys) gs in
    rw same (either_is _ _ (IsRestart s.thread a s.group M e.actor e.event) (IsIn s.group (work_of M e).dying) (restart_is s a ids M e.actor e.event e.choice) (any_in s.group (work_of M e).dying))

-- The law

some_place : (id a g : ℕ) (T : Table) (es : List Entry) → SomeRestarts id a g T es → (n : ℕ) × (e : Entry) × (slice_get es n ≡ Some e) × Restarts id a g (table_at T es n) e
some_place id a g T [] h = absurd h
some_place id a g T (e ∷ es) (inl h) = (0, e, refl, h)
some_place id a g T (e ∷ es) (inr h) = let r = some_place id a g (work_of T e).table es h in (suc r.0, r.1, r.2, r.3)

taken_short : (es : List Entry) (n k : ℕ) (e : Entry) → slice_get (take n es) k ≡ Some e → k < n
taken_short es n k e q = omega (arith, slice_get_within (take n es) k e q, length-take n es)

pub restart_there : (k : State) → IsHistory k → (i j : ℕ) (s : Stopped) → fact_at (notes_of (table_of k.start) k.journal) i ≡ Stop s → TwoStops (table_of k.start) k.journal i j → (n : ℕ) × IsRestartAt (table_of k.start) k.journal i j s n
restart_there k h zero j s m w = absurd (nothing_stop s m)
restart_there k h (suc i) zero s m (l, (e, f, t, u, a, b, same)) = absurd (none-some f b.0)
restart_there k h (suc i) (suc j) s m (l, (e, f, t, u, a, b, same)) =
    let T = table_of k.start in
    let es = k.journal in
    let less : i < j = omega (arith, l) in
    let first = cut i T k.table es k.replies e h.replayed a.0 in
    let second = cut j T k.table es k.replies f h.replayed b.0 in
    let between_them = replay_between i j T es k.replies e second.earlier less a.0 in
    let law = restart_stands T (table_at T es i) (table_at T es (suc i)) (table_at T es j) (take i es) (drop (suc i) (take j es)) (take i k.replies) (drop (suc i) (take j k.replies)) e f first.reply t u (is_start k.start h.good) first.earlier first.step a.1 between_them b.1 same in
    let p = some_place t.id e.actor t.group (table_at T es (suc i)) (drop (suc i) (take j es)) law in
    let place = suc i + p.0 in
    let in_front : slice_get (take j es) place ≡ Some p.1 = sym (get_drop (take j es) (suc i) p.0) ∙ p.2 in
    let bound : place < j = taken_short es j place p.1 in_front in
    let found : slice_get es place ≡ Some p.1 = sym (get_take es j place bound) ∙ in_front in
    let table : table_at (table_at T es (suc i)) (drop (suc i) (take j es)) p.0 ≡ table_at T es place
    = ap (λ M. table_at M (drop (suc i) (take j es)) p.0) (sym (table_take T es j (suc i) (omega arith))) ∙ (table_drop T (take j es) (suc i) p.0 ∙ table_take T es j place (omega (arith, bound))) in
    let stopped : s ≡ as_stopped t = same_stop s (as_stopped t) (sym m ∙ noted_stop T es (suc i) e t a) in (
      suc place,
      record {
        later = omega arith;
        earlier = omega (arith, bound);
        restarts = λ x q. (
          p.1,
          found,
          subst (λ (z : Stopped). Restarts z.thread x.actor z.group (table_at T es place) p.1) (sym stopped)
              (subst (λ (y : Entry). Restarts t.id y.actor t.group (table_at T es place) p.1) (same_Some e x (sym a.0 ∙ q)) (subst (λ M. Restarts t.id e.actor t.group M p.1) table p.3)),
        );
      },
    )

pub restart_lies_between : (k : State) (i j : ℕ) (s : Stopped) (n : ℕ) → fact_at (notes_of (table_of k.start) k.journal) i ≡ Stop s → IsRestartAt (table_of k.start) k.journal i j s n → RestartBetween (table_of k.start) k.journal i j n
restart_lies_between k i j s n m r = record {
  later = r.later;
  earlier = r.earlier;
  restarts = λ e t x.
      subst (λ (z : Stopped). RestartsAt (table_of k.start) k.journal n z.thread e.actor z.group) (same_stop s (as_stopped t) (sym m ∙ noted_stop (table_of k.start) k.journal i e t x)) (r.restarts e x.0);
}

-- The walk between

entry_found : (es : List Entry) (i : ℕ) (x : Entry) → 1 ≤ i → i ≤ length es → x ≡ get_or es (i - 1) x → entry_at es i ≡ Some x
entry_found es zero x l m q = absurd (omega arith)
entry_found es (suc n) x l m q = slice_get_read es (length es) n x refl (omega arith) (q ∙ ap (λ k. get_or es k x) (omega arith))

pub restart_found : (T : Table) (es : List Entry) (i j p : ℕ) (s : Stopped) (x : Entry) → 1 ≤ i → i ≤ p → p < j - 1 → j ≤ length es → x ≡ get_or es (i - 1) x
    → restarts_at s x.actor es (notes_of T es) (dying_by T es) p ≡ true → IsRestartAt T es i j s (p + 1)
restart_found T es i j p s x one l m n q r =
    let next : suc p ≡ p + 1 = omega arith in
    let e = some_there es p (omega arith) in
    let at = entry_found es i x one (omega arith) q in
    record {
      later = omega arith;
      earlier = omega arith;
      restarts = λ y h. subst (λ k. RestartsAt T es k s.thread y.actor s.group) next (e.0, e.1, subst (λ (z : Entry). Restarts s.thread z.actor s.group (table_at T es p) e.0) (same_Some x y (sym at ∙ h)) ((restarts_is s x.actor T es p e.0 e.1).0 r));
    }

pub restart_none : (T : Table) (es : List Entry) (i j : ℕ) (s : Stopped) (x : Entry) → 1 ≤ i → i < j → j ≤ length es → x ≡ get_or es (i - 1) x
    → ((p : ℕ) → i ≤ p → p < j - 1 → restarts_at s x.actor es (notes_of T es) (dying_by T es) p ≡ false) → (k : ℕ) → IsRestartAt T es i j s k → ⊥
restart_none T es i j s x one l n q f zero r = omega (arith, r.later)
restart_none T es i j s x one l n q f (suc p) r =
    let h = r.restarts x (entry_found es i x one (omega arith) q) in
    true≢false (sym ((restarts_is s x.actor T es p h.0 h.1).1 h.2) ∙ f p (omega (arith, r.later)) (omega (arith, r.earlier)))

-- In the words of the call

pub no_stop_first : (T : Table) (es : List Entry) (i j : ℕ) (m : EntryFact) → m ≡ fact_at (notes_of T es) i → ((s : Stopped) → m ≡ Stop s → ⊥) → TwoStops T es i j → ⊥
no_stop_first T es i j m e n w = let h = notes_of_stops T es i j w in n h.1.0 (e ∙ h.1.2)

pub no_stop_second : (T : Table) (es : List Entry) (i j : ℕ) (m : EntryFact) → m ≡ fact_at (notes_of T es) j → ((s : Stopped) → m ≡ Stop s → ⊥) → TwoStops T es i j → ⊥
no_stop_second T es i j m e n w = let h = notes_of_stops T es i j w in n h.1.1 (e ∙ h.1.3)

pub two_stops_same : (T : Table) (es : List Entry) (i j : ℕ) (s r : Stopped) → fact_at (notes_of T es) i ≡ Stop s → fact_at (notes_of T es) j ≡ Stop r → TwoStops T es i j → (i < j) × (s.thread ≡ r.thread)
two_stops_same T es i j s r m n w =
    let h = notes_of_stops T es i j w in
    (h.0, ap (λ (z : Stopped). z.thread) (same_stop s h.1.0 (sym m ∙ h.1.2)) ∙ (h.1.4 ∙ ap (λ (z : Stopped). z.thread) (same_stop h.1.1 r (sym h.1.3 ∙ n))))

pub stop_bounds : (k : State) → IsHistory k → (i j : ℕ) (s r : Stopped) → fact_at (notes_of (table_of k.start) k.journal) i ≡ Stop s → fact_at (notes_of (table_of k.start) k.journal) j ≡ Stop r → (1 ≤ i) × (j ≤ length k.journal)
stop_bounds k h i j s r m n =
    let a = stop_there k h i s m in
    let b = stop_there k h j r n in
    (omega (arith, a.position), omega (arith, b.position, slice_get_within k.journal b.place b.entry b.found))

pub some_restart : (k : State) → IsHistory k → (i j : ℕ) (s r : Stopped) (o : Option ℕ) → fact_at (notes_of (table_of k.start) k.journal) i ≡ Stop s → fact_at (notes_of (table_of k.start) k.journal) j ≡ Stop r → i < j → s.thread ≡ r.thread
    → (o ≡ None → (n : ℕ) → IsRestartAt (table_of k.start) k.journal i j s n → ⊥) → IsSome o ↔ TwoStops (table_of k.start) k.journal i j
some_restart k h i j s r (Some x) m n l e none = ((λ q. stops_by_notes k h i j s r m n l e), λ w. refl)
some_restart k h i j s r None m n l e none =
    let w = stops_by_notes k h i j s r m n l e in
    let x = restart_there k h i j s m w in
    absurd (none refl x.0 x.1)

pub restart_between_them : (k : State) (i j : ℕ) (s : Stopped) (o : Option ℕ) → fact_at (notes_of (table_of k.start) k.journal) i ≡ Stop s → IfSome o (λ n. IsRestartAt (table_of k.start) k.journal i j s n) → IfSome o (λ n. RestartBetween (table_of k.start) k.journal i j n)
restart_between_them k i j s None m h = tt
restart_between_them k i j s (Some n) m h = restart_lies_between k i j s n m h
