-- Which reports stand in the table, and that each move keeps count of them.
use Rattle.std.proofs.Common.{◌≡◌, ℕ, zero, suc, ◌+◌, ◌≤◌, List, [], ◌∷◌, ◌++◌, true, false, Some, None, Option, refl, sym, ap, ◌∙◌, map, filter, Bool, not, ◌&&◌, ◌==◌, ◌⊎◌, inl, inr, if◌then◌else◌, arith, cond, add-one, append_assoc, subst, unwrap_or}
use Rattle.std.proofs.lemmas.Option.{none-some}
use Rattle.tr_pending.specs.declared.instance.Instance.{Instance}
use Rattle.tr_tracee.specs.declared.thread.Report.{Report}
use Rattle.tr_wait.specs.declared.status.Status.{Status}
use Rattle.tr_tracee.specs.declared.life.End.{End}
use Rattle.tr_tracee.specs.declared.life.End.TheVariants as ending
use Rattle.tr_tracee.specs.declared.life.Stop.{Stop}
use Rattle.tr_tracee.specs.declared.life.Stop.TheVariants as stop
use Rattle.tr_tracee.specs.declared.thread.Thread.{Thread}
use Rattle.tr_model.specs.declared.fates.Fate.{Fate}
use Rattle.tr_model.specs.declared.fates.Fate.TheVariants.{Flushed}
use Rattle.tr_model.proofs.Every.{each_map, each_weaker, each-append, each_filter, each_found, each_changed, each_dropped}
use Rattle.tr_model.proofs.Calm.{Calm, CalmGroup, calm_throughout, calm_broken, calm_broken_by_exec, calm_restarted, calm_listening, calm_group, without_note}
use Rattle.tr_model.proofs.Kept.{Kept, any, any_of, itself}
use Rattle.tr_model.proofs.Measures.{total, total-append, total_changed, total_dropped, total_less, total_filter}
use Rattle.tr_model.specs.declared.rows.Group.{Group}
use Rattle.tr_model.specs.Journals.{Each, EachGroup, WasRaised, occurs}
use Rattle.tr_model.specs.declared.raises.Raise.{Raise}
use Rattle.tr_model.specs.Moves.{Work}
use Rattle.tr_model.specs.Tables.{Table}
use Rattle.tr_tracee.specs.Lives.{held}
use Rattle.tr_model.specs.Deaths
use Rattle.tr_tracee.specs.Lives
use Rattle.tr_model.specs.Moves
use Rattle.tr_model.specs.Tables
use Rattle.tr_tracee.specs.Threads
use Rattle.tr_tracee.specs.Ends as TraceeEnds
use Rattle.tr_tracee.specs.Stops as TraceeStops

abbrev pub one : Bool → ℕ
one true = 1
one false = 0

abbrev pub is_report : ℕ → Option Report → ℕ
is_report r None = 0
is_report r (Some x) = one (x.number == r)

abbrev pub reports : ℕ → Thread → ℕ
reports r t = is_report r t.report

abbrev pub notes : ℕ → List Group → ℕ
notes r [] = 0
notes r (g ∷ gs) = is_report r g.note + notes r gs

abbrev pub upto : ℕ → ℕ → ℕ
upto r zero = 0
upto r (suc a) = one (suc a == r) + upto r a

upto_more : (r a : ℕ) → upto r (a + 1) ≡ one (a + 1 == r) + upto r a
upto_more r a = rw add-one refl

-- for whom the report of a thread, or the note of a group, was raised
abbrev pub RaisedFor : List Raise → Option Report → Option ℕ → Type 0
RaisedFor hs o whom = (x : Report) → o ≡ Some x → WasRaised x.number whom hs

abbrev pub Owned : List Raise → Thread → Type 0
Owned hs t = RaisedFor hs t.report (Threads.tracer_of t.trace)

abbrev pub OwnedNote : List Raise → Group → Type 0
OwnedNote hs g = RaisedFor hs g.note None

-- before: what earlier entries raised; taken: what was consumed
pub record Reported (before : List Raise) (taken : List ℕ) (w : Work) : Type 0 where
  pub count : (r : ℕ) → total (reports r) w.table.threads + notes r w.table.groups + occurs r taken ≤ upto r w.table.raised
  pub threads : Each (Owned (before ++ w.raises)) w.table.threads
  pub groups : EachGroup (OwnedNote (before ++ w.raises)) w.table.groups

-- Small facts

was_raised-append : (r : ℕ) (whom : Option ℕ) (xs ys : List Raise) → WasRaised r whom xs → WasRaised r whom (xs ++ ys)
was_raised-append r whom [] ys h = absurd h
was_raised-append r whom (x ∷ xs) ys (inl e) = inl e
was_raised-append r whom (x ∷ xs) ys (inr h) = inr (was_raised-append r whom xs ys h)

was_raised-last : (r : ℕ) (whom : Option ℕ) (xs : List Raise) (y : Raise) → y.number ≡ r → y.whom ≡ whom → WasRaised r whom (xs ++ y ∷ [])
was_raised-last r whom [] y e f = inl (e, f)
was_raised-last r whom (x ∷ xs) y e f = inr (was_raised-last r whom xs y e f)

owned_more : (hs ys : List Raise) (o : Option Report) (whom : Option ℕ) → RaisedFor hs o whom → RaisedFor (hs ++ ys) o whom
owned_more hs ys o whom h x e = was_raised-append x.number whom hs ys (h x e)

pub less : (r : ℕ) (o p : Option Report) → (p ≡ None) ⊎ (p ≡ o) → is_report r p ≤ is_report r o
less r o p (inl e) = let z : is_report r p ≡ 0 = ap (is_report r) e in omega arith
less r o p (inr e) = let z : is_report r p ≡ is_report r o = ap (is_report r) e in omega arith

pub calm_less : (r : ℕ) (t u : Thread) → Calm t u → reports r u ≤ reports r t
calm_less r t u c = less r t.report u.report (go c.reports)
  where
    go : ((u.report ≡ None) ⊎ ((u.report ≡ t.report) × (Threads.tracer_of u.trace ≡ Threads.tracer_of t.trace))) → (u.report ≡ None) ⊎ (u.report ≡ t.report)
    go (inl e) = inl e
    go (inr e) = inr e.0

calm_owned : (hs : List Raise) (t u : Thread) → Calm t u → Owned hs t → Owned hs u
calm_owned hs t u c h x e = go c.reports
  where
    go : ((u.report ≡ None) ⊎ ((u.report ≡ t.report) × (Threads.tracer_of u.trace ≡ Threads.tracer_of t.trace))) → WasRaised x.number (Threads.tracer_of u.trace) hs
    go (inl n) = absurd (none-some x (sym n ∙ e))
    go (inr s) = subst (λ whom. WasRaised x.number whom hs) (sym s.1) (h x (sym s.0 ∙ e))

pub no_report : (hs : List Raise) (o : Option Report) (whom : Option ℕ) → o ≡ None → RaisedFor hs o whom
no_report hs o whom n x e = absurd (none-some x (sym n ∙ e))

-- groups

pub notes_less : (r : ℕ) (f : Group → Group) → ((x : Group) → CalmGroup x (f x)) → (gs : List Group) → notes r (map f gs) ≤ notes r gs
notes_less r f c [] = omega arith
notes_less r f c (g ∷ gs) = omega (arith, less r g.note (f g).note (c g).note, notes_less r f c gs)

notes_owned : (hs : List Raise) (f : Group → Group) → ((x : Group) → CalmGroup x (f x)) → (gs : List Group) → EachGroup (OwnedNote hs) gs → EachGroup (OwnedNote hs) (map f gs)
notes_owned hs f c [] h = tt
notes_owned hs f c (g ∷ gs) h = (one_note (c g).note, notes_owned hs f c gs h.1)
  where
    one_note : (((f g).note ≡ None) ⊎ ((f g).note ≡ g.note)) → OwnedNote hs (f g)
    one_note (inl n) = no_report hs _ None n
    one_note (inr s) = λ x e. h.0 x (sym s ∙ e)

notes_more : (hs ys : List Raise) (gs : List Group) → EachGroup (OwnedNote hs) gs → EachGroup (OwnedNote (hs ++ ys)) gs
notes_more hs ys [] h = tt
notes_more hs ys (g ∷ gs) h = (owned_more hs ys g.note None h.0, notes_more hs ys gs h.1)

notes_filter : (r : ℕ) (p : Group → Bool) (gs : List Group) → notes r (filter p gs) ≤ notes r gs
notes_filter r p [] = omega arith
notes_filter r p (g ∷ gs) = go (p g) (notes_filter r p gs)
  where
    go : (b : Bool) → notes r (filter p gs) ≤ notes r gs → notes r (cond b (g ∷ filter p gs) (filter p gs)) ≤ is_report r g.note + notes r gs
    go true ih = omega (arith, ih)
    go false ih = omega (arith, ih)

groups_filter : (hs : List Raise) (p : Group → Bool) (gs : List Group) → EachGroup (OwnedNote hs) gs → EachGroup (OwnedNote hs) (filter p gs)
groups_filter hs p [] h = tt
groups_filter hs p (g ∷ gs) h = go (p g) (groups_filter hs p gs h.1)
  where
    go : (b : Bool) → EachGroup (OwnedNote hs) (filter p gs) → EachGroup (OwnedNote hs) (cond b (g ∷ filter p gs) (filter p gs))
    go true r = (h.0, r)
    go false r = r

notes_changed : (r g n : ℕ) (s : Status) (gs : List Group) → notes r (Moves.group_changed g (Moves.with_note n s) gs) ≤ notes r gs + one (n == r)
notes_changed r g n s [] = omega arith
notes_changed r g n s (x ∷ gs) = go (x.tgid == g) (notes_changed r g n s gs)
  where
    go : (b : Bool) → notes r (Moves.group_changed g (Moves.with_note n s) gs) ≤ notes r gs + one (n == r)
        → notes r (if b then Moves.with_note n s x ∷ gs else x ∷ Moves.group_changed g (Moves.with_note n s) gs) ≤ (is_report r x.note + notes r gs) + one (n == r)
    go true ih = omega arith
    go false ih = omega (arith, ih)

changed_owned : (hs : List Raise) (g n : ℕ) (s : Status) → WasRaised n None hs → (gs : List Group) → EachGroup (OwnedNote hs) gs → EachGroup (OwnedNote hs) (Moves.group_changed g (Moves.with_note n s) gs)
changed_owned hs g n s w [] h = tt
changed_owned hs g n s w (x ∷ gs) h = go (x.tgid == g) (changed_owned hs g n s w gs h.1)
  where
    fresh : (y : Report) → Some (record { number = n; status = s }) ≡ Some y → n ≡ y.number
    fresh y e = cc

    go : (b : Bool) → EachGroup (OwnedNote hs) (Moves.group_changed g (Moves.with_note n s) gs) → EachGroup (OwnedNote hs) (if b then Moves.with_note n s x ∷ gs else x ∷ Moves.group_changed g (Moves.with_note n s) gs)
    go true r = ((λ y e. subst (λ k. WasRaised k None hs) (fresh y e) w), h.1)
    go false r = (h.0, r)

threads_more : (hs ys : List Raise) (ts : List Thread) → Each (Owned hs) ts → Each (Owned (hs ++ ys)) ts
threads_more hs ys ts h = each_weaker (Owned hs) (Owned (hs ++ ys)) (λ t. owned_more hs ys t.report (Threads.tracer_of t.trace)) ts h

-- a report now raised on a thread
fresh_owned : (hs : List Raise) (n id : ℕ) (st : Status) (u t : Thread) → u.report ≡ Some (record { number = n; status = st }) → u.trace ≡ t.trace
    → Owned (hs ++ record { number = n; whom = Threads.tracer_of t.trace; id = id; status = st } ∷ []) u
fresh_owned hs n id st u t e c x h = was_raised-last x.number (Threads.tracer_of u.trace) hs (record { number = n; whom = Threads.tracer_of t.trace; id = id; status = st }) (number_is (sym e ∙ h)) (ap Threads.tracer_of (sym c))
  where
    number_is : Some (record { number = n; status = st }) ≡ Some x → n ≡ x.number
    number_is q = cc

module _ (before : List Raise) (taken : List ℕ) where
  pub map-reported : (f : Thread → Thread) → ((t : Thread) → Calm t (f t)) → (w : Work) → Reported before taken w → Reported before taken (Moves.alter f w)
  map-reported f c w p = record {
    count = λ r. omega (arith, p.count r, total_less (reports r) f (λ t. calm_less r t (f t) (c t)) w.table.threads);
    threads = each_map (Owned (before ++ w.raises)) (Owned (before ++ w.raises)) f (λ t. calm_owned (before ++ w.raises) t (f t) (c t)) w.table.threads p.threads;
    groups = p.groups;
  }

  changing-reported : (fate : Fate) (f : Thread → Thread) (t : Thread) → Calm t (f t) → (w : Work) → Tables.thread_of w.table t.id ≡ Some t → Reported before taken w → Reported before taken (Moves.change_ending fate f t w)
  changing-reported fate f t c w e p = record {
    count = λ r. omega (arith, p.count r, total_changed (reports r) t.id f t w.table.threads e, calm_less r t (f t) c);
    threads = each_changed (Owned (before ++ w.raises)) t.id f t (calm_owned (before ++ w.raises) t (f t) c (each_found (Owned (before ++ w.raises)) t.id t w.table.threads e p.threads)) w.table.threads e p.threads;
    groups = p.groups;
  }

  pub regroup-reported : (f : Group → Group) → ((x : Group) → CalmGroup x (f x)) → (w : Work) → Reported before taken w → Reported before taken (Moves.regroup f w)
  regroup-reported f c w p = record {
    count = λ r. omega (arith, p.count r, notes_less r f c w.table.groups);
    threads = p.threads;
    groups = notes_owned (before ++ w.raises) f c w.table.groups p.groups;
  }

  death-reported : (g : ℕ) (s : End) (kill : Bool) (w : Work) → Reported before taken w → Reported before taken (Deaths.begin_death g s kill w)
  death-reported g s kill w p =
      let now = unwrap_or (Tables.group_end w.table g) s in
      let q = map-reported (Threads.at_group g (TraceeEnds.begun_to_leave kill now)) (calm_throughout g (TraceeEnds.begun_to_leave kill now) (calm_broken kill now)) _
      (regroup-reported (Moves.only_group g (Deaths.dying_with s)) (calm_group g (Deaths.dying_with s) (without_note _ (λ x. refl) (λ x. refl))) w p) in
      record { count = q.count; threads = q.threads; groups = q.groups }

  -- f raises the next report on the thread
  raising-reported : (f : Thread → Thread) (t : Thread) (st : Status) (w : Work) → Tables.thread_of w.table t.id ≡ Some t
      → (f t).report ≡ Some (record { number = w.table.raised + 1; status = st }) → (f t).trace ≡ t.trace → Reported before taken w
      → Reported before taken (Moves.raise_with f t st w)
  raising-reported f t st w e n c p =
      let whole : (before ++ w.raises) ++ record { number = w.table.raised + 1; whom = Threads.tracer_of t.trace; id = t.id; status = st } ∷ [] ≡ before ++ (w.raises ++ record { number = w.table.raised + 1; whom = Threads.tracer_of t.trace; id = t.id; status = st } ∷ []) = append_assoc before w.raises _ in
      record {
        count = λ r. let one_more : reports r (f t) ≡ one (w.table.raised + 1 == r) = ap (is_report r) n in omega (arith, p.count r, total_changed (reports r) t.id f t w.table.threads e, upto_more r w.table.raised);
        threads = subst (λ hs. Each (Owned hs) (Moves.changed t.id f w.table.threads)) whole
            (each_changed (Owned _) t.id f t (fresh_owned (before ++ w.raises) _ _ st (f t) t n c) w.table.threads e (threads_more (before ++ w.raises) _ w.table.threads p.threads));
        groups = subst (λ hs. EachGroup (OwnedNote hs) w.table.groups) whole (notes_more (before ++ w.raises) _ w.table.groups p.groups);
      }

  at-reported : (id : ℕ) (move : Thread → Work → Work) (w : Work) → ((t : Thread) → Tables.thread_of w.table t.id ≡ Some t → Reported before taken (move t w)) → Reported before taken w → Reported before taken (Moves.at id move w)
  at-reported id move w h d = go (Tables.thread_of w.table id) refl
    where
      go : (o : Option Thread) → Tables.thread_of w.table id ≡ o → Reported before taken (Moves.on_thread o move w)
      go None e = d
      go (Some t) e = h t (itself w.table.threads id t e)

  entering-reported : (t : Thread) (s : Stop) (w : Work) → Tables.thread_of w.table t.id ≡ Some t → Reported before taken w → Reported before taken (Moves.enter_if_allowed s t w)
  entering-reported t s w e p = go (TraceeStops.may_enter t.life)
    where
      go : (m : Bool) → Reported before taken (if m then Moves.entered_now s t w else w)
      go true = raising-reported (λ x. TraceeStops.reported (w.table.raised + 1) (Lives.status_of_stop s) (TraceeStops.entered s x)) t (Lives.status_of_stop s) w e refl refl p
      go false = p

  holding-reported : (t : Thread) (o : Option Instance) (w : Work) → Tables.thread_of w.table t.id ≡ Some t → Reported before taken w → Reported before taken (Moves.on_instance o (Moves.holding t) w)
  holding-reported t None w e p = p
  holding-reported t (Some i) w e p = go (Lives.is_free t.life)
    where
      go : (f : Bool) → Reported before taken (if f then Moves.enter_if_allowed (stop.Signal i false) t (Moves.pulled i w) else w)
      go true = entering-reported t (stop.Signal i false) (Moves.pulled i w) e (record { count = p.count; threads = p.threads; groups = p.groups })
      go false = p

  dead-reported : (s : End) (t : Thread) (w : Work) → Tables.thread_of w.table t.id ≡ Some t → Reported before taken w → Reported before taken (Moves.report_dead s t w)
  dead-reported s t w e p = go (Lives.is_dead t.life)
    where
      go : (b : Bool) → Reported before taken (if b then Moves.raise t (Lives.status_of_end s) w else w)
      go true = raising-reported (TraceeStops.reported (w.table.raised + 1) (Lives.status_of_end s)) t (Lives.status_of_end s) w e refl refl p
      go false = p

  spawned-reported : (id : ℕ) (mark : Bool) (t : Thread) (w : Work) → Reported before taken w → Reported before taken (Moves.spawned id mark t w)
  spawned-reported id mark t w p = go (Lives.is_free t.life)
    where
      go : (f : Bool) → Reported before taken (if f then Moves.added (TraceeEnds.child id mark t) w else w)
      go true = record {
        count = λ r. omega (arith, p.count r, total-append (reports r) w.table.threads (TraceeEnds.child id mark t ∷ []));
        threads = each-append (Owned (before ++ w.raises)) w.table.threads (TraceeEnds.child id mark t ∷ []) p.threads ((λ x e. absurd (none-some x e)), tt);
        groups = p.groups;
      }
      go false = p

  placed-reported : (t : Thread) (w : Work) → Tables.thread_of w.table t.id ≡ Some t → Reported before taken w → Reported before taken (Moves.taking_place t w)
  placed-reported t w e p = go (Lives.is_execing t.life && not (t.id == t.group))
    where
      fewer : (r : ℕ) (x : Thread) → reports r (Moves.in_leaders_row t x) ≤ reports r x
      fewer r x = at_place (x.id == t.group && Lives.is_dead x.life)
        where
          at_place : (b : Bool) → reports r (if b then Moves.renamed t.group t else x) ≤ reports r x
          at_place true = omega arith
          at_place false = omega arith

      owned : (x : Thread) → Owned (before ++ w.raises) x → Owned (before ++ w.raises) (Moves.in_leaders_row t x)
      owned x h = at_place (x.id == t.group && Lives.is_dead x.life)
        where
          at_place : (b : Bool) → Owned (before ++ w.raises) (if b then Moves.renamed t.group t else x)
          at_place true = λ y q. absurd (none-some y q)
          at_place false = h

      go : (b : Bool) → Reported before taken (if b then Moves.with_leaders_row t w else w)
      go true = record {
        count = λ r. omega (arith, p.count r, total_less (reports r) (Moves.in_leaders_row t) (fewer r) (Moves.dropped t.id w.table.threads), total_dropped (reports r) t.id t w.table.threads e);
        threads = each_map (Owned (before ++ w.raises)) (Owned (before ++ w.raises)) (Moves.in_leaders_row t) owned (Moves.dropped t.id w.table.threads) (each_dropped (Owned (before ++ w.raises)) t.id w.table.threads p.threads);
        groups = p.groups;
      }
      go false = p

  note-reported : (g : ℕ) (s : Status) (w : Work) → Reported before taken w → Reported before taken (Moves.note g s w)
  note-reported g s w p =
      let new : Raise = record { number = w.table.raised + 1; whom = None; id = g; status = s } in
      let whole : (before ++ w.raises) ++ new ∷ [] ≡ before ++ (w.raises ++ new ∷ []) = append_assoc before w.raises (new ∷ []) in
      record {
        count = λ r. omega (arith, p.count r, notes_changed r g (w.table.raised + 1) s w.table.groups, upto_more r w.table.raised);
        threads = subst (λ hs. Each (Owned hs) w.table.threads) whole (threads_more (before ++ w.raises) (new ∷ []) w.table.threads p.threads);
        groups = subst (λ hs. EachGroup (OwnedNote hs) (Moves.group_changed g (Moves.with_note (w.table.raised + 1) s) w.table.groups)) whole
            (changed_owned ((before ++ w.raises) ++ new ∷ []) g (w.table.raised + 1) s (was_raised-last _ None (before ++ w.raises) new refl refl) w.table.groups (notes_more (before ++ w.raises) (new ∷ []) w.table.groups p.groups));
      }

  pub moves-reported : Kept any any_of (Reported before taken)
  moves-reported = record {
    alter = λ f h w p. map-reported f (λ t. (h t).calm) w p;
    resume = λ fate live t r w e p. changing-reported fate TraceeStops.restarted t (calm_restarted t) w e p;
    listen = λ t r w e p. changing-reported Flushed TraceeStops.listening t (calm_listening t) w e p;
    break_others = λ g id x w p. let q = map-reported (Threads.at_group g (TraceeEnds.begun_to_leave_by_exec id (ending.Exited 0))) (calm_throughout g _ (calm_broken_by_exec id (ending.Exited 0))) w p in record { count = q.count; threads = q.threads; groups = q.groups };
    begin_death = death-reported;
    kill_group = λ g w p. let q = death-reported g (ending.Killed 9) true w p in record { count = q.count; threads = q.threads; groups = q.groups };
    enter = λ id s h w p. at-reported id (Moves.enter_if_allowed s) w (λ t e. entering-reported t s w e p) p;
    hold = λ id n w p. at-reported id (λ t. Moves.on_instance (Moves.instance_in w.table.waiting n) (Moves.holding t)) w (λ t e. holding-reported t _ w e p) p;
    report_death = λ id s w p. at-reported id (Moves.report_dead s) w (λ t e. dead-reported s t w e p) p;
    spawn = λ parent id mark w n p. at-reported parent (Moves.spawned id mark) w (λ t e. spawned-reported id mark t w p) p;
    remove_dead = λ q w p. record { count = λ r. omega (arith, p.count r, total_filter (reports r) (λ t. not (q t && Lives.is_dead t.life)) w.table.threads); threads = each_filter (Owned (before ++ w.raises)) _ w.table.threads p.threads; groups = p.groups };
    take_place = λ id w p. at-reported id Moves.taking_place w (λ t e. placed-reported t w e p) p;
    regroup = regroup-reported;
    note = note-reported;
    drop_empty = λ g w p. record { count = λ r. omega (arith, p.count r, notes_filter r (Moves.stays g w) w.table.groups); threads = p.threads; groups = groups_filter (before ++ w.raises) (Moves.stays g w) w.table.groups p.groups };
    enqueue = λ s i q w p. record { count = p.count; threads = p.threads; groups = p.groups };
    accept_as = λ fate live w p. record { count = p.count; threads = p.threads; groups = p.groups };
    end_waiting = λ fate live q w p. record { count = p.count; threads = p.threads; groups = p.groups };
  }
