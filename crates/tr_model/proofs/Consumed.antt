-- What a wait consumes stood in the table, was raised for the one that waits, and is consumed once.
use Rattle.std.specs.Prelude.{option_to_list}
use Rattle.std.proofs.Common.{◌≡◌, ℕ, zero, suc, ◌+◌, ◌<◌, ◌≤◌, List, [], ◌∷◌, ◌++◌, true, false, Some, None, Option, refl, sym, ap, ◌∙◌, map, filter, Bool, not, ◌&&◌, ◌||◌, ◌==◌, ◌⊎◌, inl, inr, if◌then◌else◌, is_some, arith, cond, true≢false, append-nil, append_assoc, subst}
use Rattle.std.proofs.lemmas.Bool.{eqb-true, and_parts, and_from, cases_eq, ne_eqb, eq-eqb}
use Rattle.std.proofs.lemmas.Option.{none-some, same_Some}
use Rattle.tr_tracee.specs.declared.thread.Report.{Report}
use Rattle.tr_tracee.specs.declared.thread.Thread.{Thread}
use Rattle.tr_tracee.specs.declared.thread.Trace.{Trace}
use Rattle.tr_model.specs.Choices.{Choice}
use Rattle.tr_model.specs.declared.events.Event.{Event}
use Rattle.tr_model.specs.declared.events.Event.TheVariants as event
use Rattle.tr_model.specs.Entries.{Entry}
use Rattle.tr_model.specs.declared.replies.Reply.{Reply}
use Rattle.tr_model.proofs.Among.{some_found}
use Rattle.tr_model.proofs.Every.{each_filter}
use Rattle.tr_model.proofs.Calm.{Tame, CalmGroup, calm_group, without_note, tame_only, tame_released, tame_told_nothing}
use Rattle.tr_model.proofs.Kept.{any, any_of, tracer_is, always-kept, settle-kept}
use Rattle.tr_model.proofs.Measures.{total, total_less, total_filter}
use Rattle.tr_model.specs.declared.rows.Group.{Group}
use Rattle.tr_wait.specs.declared.waits.Which.{Which}
use Rattle.tr_wait.specs.declared.waits.WaitFlags.{WaitFlags}
use Rattle.tr_model.specs.Journals.{Each, EachGroup, IsIn, WasRaised, occurs}
use Rattle.tr_model.specs.declared.raises.Raise.{Raise}
use Rattle.tr_model.specs.Moves.{Work}
use Rattle.tr_model.specs.Tables.{Table}
use Rattle.tr_tracee.specs.Lives.{held}
use Rattle.tr_model.specs.Ends
use Rattle.tr_model.specs.GroupStops
use Rattle.tr_model.specs.Journals
use Rattle.tr_model.specs.Laws
use Rattle.tr_tracee.specs.Lives
use Rattle.tr_model.specs.Moves
use Rattle.tr_model.specs.Tracers
use Rattle.tr_model.specs.Steps
use Rattle.tr_model.specs.Tables
use Rattle.tr_tracee.specs.Threads
use Rattle.tr_tracee.specs.Ends as TraceeEnds
use Rattle.tr_tracee.specs.Stops as TraceeStops
use Rattle.tr_model.specs.StarterWaits
use Rattle.tr_model.specs.Waits
use Rattle.tr_model.proofs.Reports.{one, is_report, reports, notes, upto, RaisedFor, Owned, OwnedNote, Reported, less, calm_less, no_report, notes_less, map-reported, regroup-reported, moves-reported}

abbrev pub Member : Thread → List Thread → Type 0
Member t [] = ⊥
Member t (x ∷ xs) = (x ≡ t) ⊎ Member t xs

pub found_in : (r : ℕ) (t : Thread) (ts : List Thread) → Waits.with_report ts r ≡ Some t → Member t ts × (Waits.has_report r t.report ≡ true)
found_in r t [] e = absurd (none-some t e)
found_in r t (x ∷ ts) e = go (Waits.has_report r x.report) refl e (found_in r t ts)
  where
    go : (b : Bool) → Waits.has_report r x.report ≡ b → (if b then Some x else Waits.with_report ts r) ≡ Some t → (Waits.with_report ts r ≡ Some t → Member t ts × (Waits.has_report r t.report ≡ true))
        → ((x ≡ t) ⊎ Member t ts) × (Waits.has_report r t.report ≡ true)
    go true h q ih = let s = same_Some x t q in (inl s, ap (λ (y : Thread). Waits.has_report r y.report) (sym s) ∙ h)
    go false h q ih = (inr (ih q).0, (ih q).1)

pub member_filter : (p : Thread → Bool) (t : Thread) (ts : List Thread) → Member t (filter p ts) → Member t ts × (p t ≡ true)
member_filter p t [] h = absurd h
member_filter p t (x ∷ ts) h = go (p x) refl h (member_filter p t ts)
  where
    go : (b : Bool) → p x ≡ b → Member t (cond b (x ∷ filter p ts) (filter p ts)) → (Member t (filter p ts) → Member t ts × (p t ≡ true)) → ((x ≡ t) ⊎ Member t ts) × (p t ≡ true)
    go true e (inl s) ih = (inl s, ap p (sym s) ∙ e)
    go true e (inr m) ih = (inr (ih m).0, (ih m).1)
    go false e m ih = (inr (ih m).0, (ih m).1)

pub each_member : (Q : Thread → Type 0) (t : Thread) (ts : List Thread) → Each Q ts → Member t ts → Q t
each_member Q t [] h m = absurd m
each_member Q t (x ∷ ts) h (inl e) = subst Q e h.0
each_member Q t (x ∷ ts) h (inr m) = each_member Q t ts h.1 m

strict_map : (m : Thread → ℕ) (f : Thread → Thread) (t : Thread) → ((x : Thread) → m (f x) ≤ m x) → m (f t) ≡ 0 → (ts : List Thread) → Member t ts → total m (map f ts) + m t ≤ total m ts
strict_map m f t l z [] h = absurd h
strict_map m f t l z (x ∷ ts) (inl e) = omega (arith, total_less m f l ts, ap m e, ap (λ (y : Thread). m (f y)) e)
strict_map m f t l z (x ∷ ts) (inr h) = omega (arith, l x, strict_map m f t l z ts h)

strict_filter : (m : Thread → ℕ) (p : Thread → Bool) (t : Thread) → p t ≡ false → (ts : List Thread) → Member t ts → total m (filter p ts) + m t ≤ total m ts
strict_filter m p t n [] h = absurd h
strict_filter m p t n (x ∷ ts) (inl e) = go (p x) refl (total_filter m p ts)
  where
    go : (b : Bool) → p x ≡ b → total m (filter p ts) ≤ total m ts → total m (cond b (x ∷ filter p ts) (filter p ts)) + m t ≤ m x + total m ts
    go true q ih = absurd (true≢false (sym q ∙ (ap p e ∙ n)))
    go false q ih = omega (arith, ih, ap m e)
strict_filter m p t n (x ∷ ts) (inr h) = go (p x) (strict_filter m p t n ts h)
  where
    go : (b : Bool) → total m (filter p ts) + m t ≤ total m ts → total m (cond b (x ∷ filter p ts) (filter p ts)) + m t ≤ m x + total m ts
    go true ih = omega (arith, ih)
    go false ih = omega (arith, ih)

occurs-last : (r n : ℕ) (xs : List ℕ) → occurs n (xs ++ r ∷ []) ≡ occurs n xs + one (r == n)
occurs-last r n [] = go (r == n)
  where
    go : (b : Bool) → (if b then 1 else 0) + 0 ≡ 0 + one b
    go true = refl
    go false = refl
occurs-last r n (x ∷ xs) = omega (arith, occurs-last r n xs)

it_has : (r n : ℕ) (o : Option Report) → Waits.has_report r o ≡ true → is_report n o ≡ one (r == n)
it_has r n None h = absurd (true≢false (sym h))
it_has r n (Some x) h = ap (λ (k : ℕ). one (k == n)) (eqb-true x.number r h)

pub here : (id : ℕ) (f : Thread → Thread) (t : Thread) → t.id ≡ id → Threads.at_thread id f t ≡ f t
here id f t e = go (t.id == id) (eq-eqb t.id id e)
  where
    go : (b : Bool) → b ≡ true → (if b then f t else t) ≡ f t
    go true h = refl
    go false h = absurd (true≢false (sym h))

module _ (before : List Raise) (taken : List ℕ) (r : ℕ) (t : Thread) (w : Work) (p : Reported before taken w) (m : Member t w.table.threads) (h : Waits.has_report r t.report ≡ true) where
  -- the report goes by a change of the thread's record
  cleared : (f : Thread → Thread) → ((x : Thread) → Tame x (f x)) → (f t).report ≡ None → Reported before (taken ++ r ∷ []) (Moves.alter (Threads.at_thread t.id f) w)
  cleared f c n =
      let q = map-reported before taken (Threads.at_thread t.id f) (λ x. (tame_only t.id f c x).calm) w p in
      record {
        count = λ k. omega (arith, p.count k, strict_map (reports k) (Threads.at_thread t.id f) t (λ x. calm_less k x _ (tame_only t.id f c x).calm) (ap (reports k) (here t.id f t refl) ∙ ap (is_report k) n) w.table.threads m, it_has r k t.report h, occurs-last r k taken);
        threads = q.threads;
        groups = q.groups;
      }

  removed : Lives.is_dead t.life ≡ true → Reported before (taken ++ r ∷ []) (Moves.remove_dead (λ x. x.id == t.id) w)
  removed d = record {
    count = λ k. omega (arith, p.count k, strict_filter (reports k) (λ x. not (x.id == t.id && Lives.is_dead x.life)) t (ap not (and_from _ _ (eq-eqb t.id t.id refl) d)) w.table.threads m, it_has r k t.report h, occurs-last r k taken);
    threads = each_filter (Owned (before ++ w.raises)) _ w.table.threads p.threads;
    groups = p.groups;
  }

  passed_on : (o : Option Report) → (TraceeEnds.released t).report ≡ None → Reported before (taken ++ r ∷ []) (Ends.pass_on t o w)
  passed_on None n = cleared TraceeEnds.released tame_released n
  passed_on (Some x) n = (moves-reported before (taken ++ r ∷ [])).report_death t.id _ _ (cleared TraceeEnds.released tame_released n)

  taken_off : Lives.is_dead t.life ≡ true → Reported before (taken ++ r ∷ []) (Ends.remove_thread t w)
  taken_off d = (moves-reported before (taken ++ r ∷ [])).drop_empty t.group _ (removed d)

  released_none : (b : Bool) → b ≡ true → (if b then record t { trace = None; report = None } else t).report ≡ None
  released_none true e = refl
  released_none false e = absurd (true≢false (sym e))

  consumed-reported : Reported before (taken ++ r ∷ []) (Waits.consume t w)
  consumed-reported = go (Lives.is_dead t.life) refl (Threads.is_leader t)
    where
      go : (d : Bool) → Lives.is_dead t.life ≡ d → (l : Bool) → Reported before (taken ++ r ∷ []) (if d then (if l then Ends.pass_on t t.report w else Ends.remove_thread t w) else Moves.alter (Threads.at_thread t.id TraceeStops.without_report) w)
      go true d true = passed_on t.report (released_none (Lives.is_dead t.life) d)
      go true d false = taken_off d
      go false d l = cleared TraceeStops.without_report tame_told_nothing refl

-- a note

abbrev MemberGroup : Group → List Group → Type 0
MemberGroup g [] = ⊥
MemberGroup g (x ∷ xs) = (x ≡ g) ⊎ MemberGroup g xs

pub found_note : (r : ℕ) (g : Group) (gs : List Group) → StarterWaits.group_with_note gs r ≡ Some g → MemberGroup g gs × (Waits.has_report r g.note ≡ true)
found_note r g [] e = absurd (none-some g e)
found_note r g (x ∷ gs) e = go (Waits.has_report r x.note) refl e (found_note r g gs)
  where
    go : (b : Bool) → Waits.has_report r x.note ≡ b → (if b then Some x else StarterWaits.group_with_note gs r) ≡ Some g → (StarterWaits.group_with_note gs r ≡ Some g → MemberGroup g gs × (Waits.has_report r g.note ≡ true))
        → ((x ≡ g) ⊎ MemberGroup g gs) × (Waits.has_report r g.note ≡ true)
    go true h q ih = let e = same_Some x g q in (inl e, ap (λ (y : Group). Waits.has_report r y.note) (sym e) ∙ h)
    go false h q ih = (inr (ih q).0, (ih q).1)

group_filter : (p : Group → Bool) (g : Group) (gs : List Group) → MemberGroup g (filter p gs) → MemberGroup g gs
group_filter p g [] h = absurd h
group_filter p g (x ∷ gs) h = go (p x) h (group_filter p g gs)
  where
    go : (b : Bool) → MemberGroup g (cond b (x ∷ filter p gs) (filter p gs)) → (MemberGroup g (filter p gs) → MemberGroup g gs) → (x ≡ g) ⊎ MemberGroup g gs
    go true (inl e) ih = inl e
    go true (inr m) ih = inr (ih m)
    go false m ih = inr (ih m)

each_group : (Q : Group → Type 0) (g : Group) (gs : List Group) → EachGroup Q gs → MemberGroup g gs → Q g
each_group Q g [] h m = absurd m
each_group Q g (x ∷ gs) h (inl e) = subst Q e h.0
each_group Q g (x ∷ gs) h (inr m) = each_group Q g gs h.1 m

strict_notes : (r : ℕ) (f : Group → Group) (g : Group) → ((x : Group) → CalmGroup x (f x)) → (f g).note ≡ None → (gs : List Group) → MemberGroup g gs → notes r (map f gs) + is_report r g.note ≤ notes r gs
strict_notes r f g c n [] h = absurd h
strict_notes r f g c n (x ∷ gs) (inl e) = omega (arith, notes_less r f c gs, ap (λ (y : Group). is_report r y.note) e, ap (λ (y : Group). is_report r (f y).note) e, ap (is_report r) n)
strict_notes r f g c n (x ∷ gs) (inr h) = omega (arith, less r x.note (f x).note (c x).note, strict_notes r f g c n gs h)

note_cleared : (before : List Raise) (taken : List ℕ) (r : ℕ) (g : Group) (w : Work) → Reported before taken w → MemberGroup g w.table.groups → Waits.has_report r g.note ≡ true → Reported before (taken ++ r ∷ []) (StarterWaits.consume_note (Some g) w)
note_cleared before taken r g w p m h =
    let c = calm_group g.tgid StarterWaits.no_note (without_note _ (λ x. refl) (λ x. refl)) in
    let q = regroup-reported before taken (Moves.only_group g.tgid StarterWaits.no_note) c w p in
    record {
      count = λ k. omega (arith, p.count k, strict_notes k (Moves.only_group g.tgid StarterWaits.no_note) g c (none_here (g.tgid == g.tgid) (eq-eqb g.tgid g.tgid refl)) w.table.groups m, it_has r k g.note h, occurs-last r k taken);
      threads = q.threads;
      groups = q.groups;
    }
  where
    none_here : (b : Bool) → b ≡ true → (if b then StarterWaits.no_note g else g).note ≡ None
    none_here true e = refl
    none_here false e = absurd (true≢false (sym e))

-- A wait's entry

by_wait : (before : List Raise) (taken : List ℕ) (a : ℕ) (which : Which) (r : ℕ) (w : Work) → Reported before taken w → is_some (Waits.ready_thread w.table a which r) ≡ true → Reported before (taken ++ r ∷ []) (Moves.on_thread (Waits.ready_thread w.table a which r) Waits.consume w)
by_wait before taken a which r w p h = go (some_found _ h)
  where
    go : ((t : Thread) × (Waits.ready_thread w.table a which r ≡ Some t)) → Reported before (taken ++ r ∷ []) (Moves.on_thread (Waits.ready_thread w.table a which r) Waits.consume w)
    go x =
        let f = found_in r x.0 _ x.1 in
        let m = (member_filter _ x.0 w.table.threads (member_filter _ x.0 (Tracers.tracees w.table a) f.0).0).0 in
        subst (λ o. Reported before (taken ++ r ∷ []) (Moves.on_thread o Waits.consume w)) (sym x.1) (consumed-reported before taken r x.0 w p m f.1)

in_table : (id : ℕ) (t : Thread) (ts : List Thread) → Tables.thread_in ts id ≡ Some t → Member t ts
in_table id t [] e = absurd (none-some t e)
in_table id t (x ∷ ts) e = go (x.id == id) e (in_table id t ts)
  where
    go : (b : Bool) → (if b then Some x else Tables.thread_in ts id) ≡ Some t → (Tables.thread_in ts id ≡ Some t → Member t ts) → (x ≡ t) ⊎ Member t ts
    go true q ih = inl (same_Some x t q)
    go false q ih = inr (ih q)

-- a dead leader that has the report
pub record HasDeath (r : ℕ) (t : Thread) (ts : List Thread) : Type 0 where
  there : Member t ts
  dead : Lives.is_dead t.life ≡ true
  untraced : not (Threads.is_traced t) ≡ true
  pub report : Waits.has_report r t.report ≡ true

pub death_found : (T : Table) (r : ℕ) (t : Thread) (gs : List Group) → StarterWaits.with_death T gs r ≡ Some t → HasDeath r t T.threads
death_found T r t [] e = absurd (none-some t e)
death_found T r t (g ∷ gs) e = go (Tables.thread_of T g.tgid) refl e (death_found T r t gs)
  where
    by_thread : (x : Thread) → Tables.thread_of T g.tgid ≡ Some x → (b : Bool) → StarterWaits.has_death r (Some x) ≡ b → (if b then Some x else StarterWaits.with_death T gs r) ≡ Some t → (StarterWaits.with_death T gs r ≡ Some t → HasDeath r t T.threads) → HasDeath r t T.threads
    by_thread x f true h q ih =
        let s = same_Some x t q in
        let p = and_parts _ _ h in
        let u = and_parts _ _ p.1 in
        subst (λ y. HasDeath r y T.threads) s (record { there = in_table g.tgid x T.threads f; dead = p.0; untraced = u.0; report = u.1 })
    by_thread x f false h q ih = ih q

    go : (o : Option Thread) → Tables.thread_of T g.tgid ≡ o → (if StarterWaits.has_death r o then o else StarterWaits.with_death T gs r) ≡ Some t → (StarterWaits.with_death T gs r ≡ Some t → HasDeath r t T.threads) → HasDeath r t T.threads
    go None f q ih = ih q
    go (Some x) f q ih = by_thread x f (StarterWaits.has_death r (Some x)) refl q ih

by_starter : (before : List Raise) (taken : List ℕ) (which : Which) (flags : WaitFlags) (r : ℕ) (w : Work) → Reported before taken w → (is_some (StarterWaits.ready_death w.table which r) || is_some (StarterWaits.ready_note w.table which flags r)) ≡ true
    → Reported before (taken ++ r ∷ []) (StarterWaits.starter_takes (StarterWaits.ready_death w.table which r) (StarterWaits.ready_note w.table which flags r) w)
by_starter before taken which flags r w p h = go (StarterWaits.ready_death w.table which r) (StarterWaits.ready_note w.table which flags r) refl refl h
  where
    go : (o : Option Thread) (n : Option Group) → StarterWaits.ready_death w.table which r ≡ o → StarterWaits.ready_note w.table which flags r ≡ n → (is_some o || is_some n) ≡ true → Reported before (taken ++ r ∷ []) (StarterWaits.starter_takes o n w)
    go (Some t) n e f q =
        let x = death_found w.table r t _ e in
        taken_off before taken r t w p x.there x.report x.dead
    go None (Some g) e f q =
        let x = found_note r g _ f in
        note_cleared before taken r g w p (group_filter _ g w.table.groups x.0) x.1
    go None None e f q = absurd (true≢false (sym q))

any_reported : (before : List Raise) (taken : List ℕ) (T : Table) (a : ℕ) (e : Event) (c : Choice) → Steps.Admits T a e c → Reported before taken (Moves.begin T) → Reported before taken (GroupStops.complete_group_stops (Steps.work_of_event a e c (Moves.begin T)))
any_reported before taken T a e c h p = always-kept (Reported before taken) (moves-reported before taken) T (record { actor = a; event = e; choice = c }) h p

event_reported : (before : List Raise) (taken : List ℕ) (T : Table) (a : ℕ) (e : Event) (c : Choice) → Reported before taken (Moves.begin T) → Steps.Admits T a e c → Reported before (taken ++ Journals.consumed_of e c) (GroupStops.complete_group_stops (Steps.work_of_event a e c (Moves.begin T)))
event_reported before taken T a (event.Wait which) c p h =
    subst (λ d. Reported before (taken ++ option_to_list d.report) (GroupStops.complete_group_stops (Steps.work_of_event a (event.Wait which) d (Moves.begin T)))) (sym h.1)
    (settle-kept any any_of (Reported before (taken ++ h.0 ∷ [])) (moves-reported before (taken ++ h.0 ∷ [])) _ (by_wait before taken a which h.0 (Moves.begin T) p h.2))
event_reported before taken T a (event.StarterWait which flags) c p h =
    subst (λ d. Reported before (taken ++ option_to_list d.report) (GroupStops.complete_group_stops (Steps.work_of_event a (event.StarterWait which flags) d (Moves.begin T)))) (sym h.1)
    (settle-kept any any_of (Reported before (taken ++ h.0 ∷ [])) (moves-reported before (taken ++ h.0 ∷ [])) _ (by_starter before taken which flags h.0 (Moves.begin T) p h.2))
event_reported before taken T a e c p h = rw append-nil (any_reported before taken T a e c h p)

-- Whole journals

pub record Standing (T : Table) (raised : List Raise) (taken : List ℕ) : Type 0 where
  pub count : (r : ℕ) → total (reports r) T.threads + notes r T.groups + occurs r taken ≤ upto r T.raised
  pub threads : Each (Owned raised) T.threads
  pub groups : EachGroup (OwnedNote raised) T.groups

entry_standing : (T : Table) (raised : List Raise) (taken : List ℕ) (e : Entry) → Standing T raised taken → Steps.Admits T e.actor e.event e.choice
    → Standing (Steps.work_of T e).table (raised ++ (Steps.work_of T e).raises) (taken ++ Journals.consumed e)
entry_standing T raised taken e s h =
    let start : Reported raised taken (Moves.begin T) = record { count = s.count; threads = rw append-nil s.threads; groups = rw append-nil s.groups } in
    let p = event_reported raised taken T e.actor e.event e.choice start h in
    record { count = p.count; threads = p.threads; groups = p.groups }

regroup2 : (U : Table) (a b c : List Raise) (x y z : List ℕ) → Standing U ((a ++ b) ++ c) ((x ++ y) ++ z) → Standing U (a ++ (b ++ c)) (x ++ (y ++ z))
regroup2 U a b c x y z s = subst (λ hs. Standing U hs (x ++ (y ++ z))) (append_assoc a b c) (subst (λ cs. Standing U ((a ++ b) ++ c) cs) (append_assoc x y z) s)

pub replay_standing : (T U : Table) (raised : List Raise) (taken : List ℕ) (es : List Entry) (rs : List Reply) → Standing T raised taken → Journals.Replay T es rs U → Standing U (raised ++ Journals.raised_by T es) (taken ++ Journals.consumed_by es)
replay_standing T U raised taken [] [] s r = simp append-nil (rw r s)
replay_standing T U raised taken [] (x ∷ rs) s r = absurd r
replay_standing T U raised taken (e ∷ es) [] s r = absurd r
replay_standing T U raised taken (e ∷ es) (x ∷ rs) s r =
    let made : Journals.Replay (Steps.work_of T e).table es rs U = subst (λ M. Journals.Replay M es rs U) r.1.table r.2 in
    regroup2 U raised (Steps.work_of T e).raises (Journals.raised_by (Steps.work_of T e).table es) taken (Journals.consumed e) (Journals.consumed_by es)
    (replay_standing (Steps.work_of T e).table U _ _ es rs (entry_standing T raised taken e s r.1.choice) made)

no_reports : (ts : List Thread) → Each (λ t. t.report ≡ None) ts → ((r : ℕ) → total (reports r) ts ≡ 0) × Each (Owned []) ts
no_reports [] h = ((λ r. refl), tt)
no_reports (t ∷ ts) h = let n = no_reports ts h.1 in ((λ r. omega (arith, n.0 r, ap (is_report r) h.0)), (no_report [] t.report (Threads.tracer_of t.trace) h.0, n.1))

no_notes : (gs : List Group) → EachGroup (λ g. g.note ≡ None) gs → ((r : ℕ) → notes r gs ≡ 0) × EachGroup (OwnedNote []) gs
no_notes [] h = ((λ r. refl), tt)
no_notes (g ∷ gs) h = let n = no_notes gs h.1 in ((λ r. omega (arith, n.0 r, ap (is_report r) h.0)), (no_report [] g.note None h.0, n.1))

no_report_yet : (ts : List Thread) → Each Journals.IsFresh ts → Each (λ t. t.report ≡ None) ts
no_report_yet [] h = tt
no_report_yet (t ∷ ts) h = (h.0.report, no_report_yet ts h.1)

no_note_yet : (gs : List Group) → EachGroup Journals.IsFreshGroup gs → EachGroup (λ g. g.note ≡ None) gs
no_note_yet [] h = tt
no_note_yet (g ∷ gs) h = (h.0.note, no_note_yet gs h.1)

pub start_standing : (T : Table) → Journals.IsStart T → Standing T [] []
start_standing T n = let t = no_reports T.threads (no_report_yet T.threads n.threads) in let g = no_notes T.groups (no_note_yet T.groups n.groups) in record { count = λ r. omega (arith, t.0 r, g.0 r); threads = t.1; groups = g.1 }

pub upto_one : (r a : ℕ) → (upto r a ≤ 1) × (a < r → upto r a ≡ 0)
upto_one r zero = (omega arith, λ h. refl)
upto_one r (suc a) = go (cases_eq (suc a) r) (upto_one r a)
  where
    go : (suc a ≡ r) ⊎ (suc a ≡ r → ⊥) → (upto r a ≤ 1) × (a < r → upto r a ≡ 0) → (one (suc a == r) + upto r a ≤ 1) × (suc a < r → one (suc a == r) + upto r a ≡ 0)
    go (inl e) ih = let z : upto r a ≡ 0 = ih.1 (omega arith) in let o : one (suc a == r) ≡ 1 = ap one (eq-eqb (suc a) r e) in (omega arith, λ h. absurd (omega arith))
    go (inr n) ih = let o : one (suc a == r) ≡ 0 = ap one (ne_eqb (suc a) r n) in (omega (arith, ih.0), λ h. omega (arith, ih.1 (omega arith)))

pub consumed_once : Laws.NoReportIsConsumedTwice
consumed_once T U es rs n r k = let s = replay_standing T U [] [] es rs (start_standing T n) r in omega (arith, s.count k, (upto_one k U.raised).0)

-- what the next entry consumes

reported_number : (r : ℕ) (o : Option Report) → Waits.has_report r o ≡ true → (x : Report) × (o ≡ Some x) × (x.number ≡ r)
reported_number r None h = absurd (true≢false (sym h))
reported_number r (Some x) h = (x, refl, eqb-true x.number r h)

owned_number : (hs : List Raise) (r : ℕ) (o : Option Report) (whom : Option ℕ) → RaisedFor hs o whom → Waits.has_report r o ≡ true → WasRaised r whom hs
owned_number hs r o whom h e = let x = reported_number r o e in subst (λ k. WasRaised k whom hs) x.2 (h x.0 x.1)

untraced_whom : (o : Option Trace) → not (is_some o) ≡ true → Threads.tracer_of o ≡ None
untraced_whom None h = refl
untraced_whom (Some r) h = absurd (true≢false (sym h))

event_raised : (raised : List Raise) (taken : List ℕ) (T : Table) (a : ℕ) (e : Event) (c : Choice) → Standing T raised taken → Steps.Admits T a e c → (r : ℕ) → IsIn r (Journals.consumed_of e c) → WasRaised r (Journals.consumer_of a e) raised
event_raised raised taken T a (event.Wait which) c s h r i = go (some_found _ h.2) (subst (λ d. IsIn r (option_to_list d.report)) h.1 i)
  where
    go : ((t : Thread) × (Waits.ready_thread T a which h.0 ≡ Some t)) → IsIn r (h.0 ∷ []) → WasRaised r (Some a) raised
    go x (inr n) = absurd n
    go x (inl e) =
        let f = found_in h.0 x.0 _ x.1 in
        let m = member_filter _ x.0 T.threads (member_filter _ x.0 (Tracers.tracees T a) f.0).0 in
        let w = owned_number raised h.0 x.0.report (Threads.tracer_of x.0.trace) (each_member (Owned raised) x.0 T.threads s.threads m.0) f.1 in
        subst (λ k. WasRaised k (Some a) raised) e (subst (λ whom. WasRaised h.0 whom raised) (tracer_is a x.0.trace m.1) w)
event_raised raised taken T a (event.StarterWait which flags) c s h r i = go (StarterWaits.ready_death T which h.0) (StarterWaits.ready_note T which flags h.0) refl refl h.2 (subst (λ d. IsIn r (option_to_list d.report)) h.1 i)
  where
    go : (o : Option Thread) (n : Option Group) → StarterWaits.ready_death T which h.0 ≡ o → StarterWaits.ready_note T which flags h.0 ≡ n → (is_some o || is_some n) ≡ true → IsIn r (h.0 ∷ []) → WasRaised r None raised
    go o n e f q (inr z) = absurd z
    go (Some t) n e f q (inl y) =
        let x = death_found T h.0 t _ e in
        let w = owned_number raised h.0 t.report (Threads.tracer_of t.trace) (each_member (Owned raised) t T.threads s.threads x.there) x.report in
        subst (λ k. WasRaised k None raised) y (subst (λ whom. WasRaised h.0 whom raised) (untraced_whom t.trace x.untraced) w)
    go None (Some g) e f q (inl y) =
        let x = found_note h.0 g _ f in
        subst (λ k. WasRaised k None raised) y (owned_number raised h.0 g.note None (each_group (OwnedNote raised) g T.groups s.groups (group_filter _ g T.groups x.0)) x.1)
    go None None e f q (inl y) = absurd (true≢false (sym q))
event_raised raised taken T a e c s h r i = absurd i

pub consumed_was_raised : Laws.ConsumedWasRaised
consumed_was_raised T U V es rs e x n r st k i =
    let s = replay_standing T U [] [] es rs (start_standing T n) r in
    event_raised (Journals.raised_by T es) (Journals.consumed_by es) U e.actor e.event e.choice s st.choice k i
