-- Between two waits for stops of one thread it was restarted.
use Rattle.std.proofs.Common.{◌≡◌, ℕ, ◌+◌, List, [], ◌∷◌, ◌++◌, true, false, Some, None, Option, refl, sym, ap, ◌∙◌, map, filter, Bool, not, ◌&&◌, ◌==◌, ◌⊎◌, inl, inr, if◌then◌else◌, cond, true≢false, subst}
use Rattle.std.proofs.lemmas.Bool.{and_right, eqb-true, and_parts, cases_eq, ne_eqb, eq-eqb}
use Rattle.std.proofs.lemmas.Option.{none-some, same_Some}
use Rattle.tr_pending.specs.declared.instance.Instance.{Instance}
use Rattle.tr_tracee.specs.declared.life.Life.{Life}
use Rattle.tr_tracee.specs.declared.life.Life.TheVariants as life
use Rattle.tr_tracee.specs.declared.thread.Report.{Report}
use Rattle.tr_sigset.specs.declared.signals.Signal.{Signal}
use Rattle.tr_wait.specs.declared.status.Status.{Status}
use Rattle.tr_tracee.specs.declared.life.End.{End}
use Rattle.tr_tracee.specs.declared.life.End.TheVariants as ending
use Rattle.tr_wait.specs.declared.status.Status.TheVariants as status
use Rattle.tr_tracee.specs.declared.life.Stop.{Stop}
use Rattle.tr_tracee.specs.declared.life.Stop.TheVariants as stop
use Rattle.tr_tracee.specs.declared.thread.Thread.{Thread}
use Rattle.tr_model.specs.declared.events.Event.{Event}
use Rattle.tr_model.specs.declared.events.Event.TheVariants as event
use Rattle.tr_model.specs.Entries.{Entry}
use Rattle.tr_model.specs.declared.fates.Fate.{Fate}
use Rattle.tr_model.specs.declared.fates.Fate.TheVariants.{Flushed}
use Rattle.tr_model.specs.declared.replies.Reply.{Reply}
use Rattle.tr_model.proofs.Consumed.{found_in, member_filter, here}
use Rattle.tr_wait.specs.declared.waits.Which.{Which}
use Rattle.tr_model.proofs.Calm.{Calm, Tame, calm_throughout, calm_broken, calm_broken_by_exec, calm_restarted, calm_listening, tame_only, tame_told_nothing}
use Rattle.tr_model.proofs.Kept.{Leave, leave, found_id, entry-kept, admits_new, MayRestart, MayExec, Kept, tracer_is, itself}
use Rattle.tr_model.specs.Journals.{IsIn}
use Rattle.tr_model.specs.Laws.{IsRestart, Restarts, SomeRestarts}
use Rattle.tr_model.specs.Moves.{Work}
use Rattle.tr_model.specs.Tables.{Table}
use Rattle.tr_tracee.specs.Lives.{held}
use Rattle.tr_model.specs.Deaths
use Rattle.tr_model.specs.Ends
use Rattle.tr_model.specs.Execs
use Rattle.tr_group.specs.GroupStops as GroupKinds
use Rattle.tr_model.specs.GroupStops
use Rattle.tr_model.specs.Journals
use Rattle.tr_tracee.specs.Lives
use Rattle.tr_model.specs.Moves
use Rattle.tr_model.specs.Tracers
use Rattle.tr_model.specs.Steps
use Rattle.tr_model.specs.Tables
use Rattle.tr_tracee.specs.Threads
use Rattle.tr_tracee.specs.Ends as TraceeEnds
use Rattle.tr_tracee.specs.Stops as TraceeStops
use Rattle.tr_model.specs.Waits
use Rattle.tr_wait.specs.Words
use Rattle.tr_model.proofs.Among.{is_in-last}

-- the entry is a wait that consumed the report of this stopped thread
abbrev pub WaitsFor : Table → Entry → Thread → Type 0
WaitsFor T e t =
    (which : Which) × (r : ℕ) × (e.event ≡ event.Wait which) × (e.choice.report ≡ Some r) × (Waits.ready_thread T e.actor which r ≡ Some t)
    × (Tables.thread_of T t.id ≡ Some t) × (Lives.is_in_stop t.life ≡ true)

abbrev pub RestartBetween : Type 0
RestartBetween =
    (T M U : Table) (between : List Entry) (rs : List Reply) (e f : Entry) (x : Reply) (t u : Thread)
    → Steps.Step T e x M → WaitsFor T e t → Journals.Replay M between rs U → WaitsFor U f u → u.id ≡ t.id
    → SomeRestarts t.id e.actor t.group M between

-- What is found by an id

found_map : (f : Thread → Thread) → ((x : Thread) → (f x).id ≡ x.id) → (id : ℕ) (t : Thread) (ts : List Thread) → Tables.thread_in ts id ≡ Some t → Tables.thread_in (map f ts) id ≡ Some (f t)
found_map f k id t [] e = absurd (none-some t e)
found_map f k id t (x ∷ ts) e = ap (λ (n : ℕ). if n == id then Some (f x) else Tables.thread_in (map f ts) id) (k x) ∙ go (x.id == id) e (found_map f k id t ts)
  where
    go : (b : Bool) → (if b then Some x else Tables.thread_in ts id) ≡ Some t → (Tables.thread_in ts id ≡ Some t → Tables.thread_in (map f ts) id ≡ Some (f t)) → (if b then Some (f x) else Tables.thread_in (map f ts) id) ≡ Some (f t)
    go true q r = ap (λ (y : Thread). Some (f y)) (same_Some x t q)
    go false q r = r q

found_other : (f : Thread → Thread) (u : Thread) (id : ℕ) (t : Thread) → (u.id ≡ id → ⊥) → (f u).id ≡ u.id → (ts : List Thread) → Tables.thread_in ts u.id ≡ Some u → Tables.thread_in ts id ≡ Some t → Tables.thread_in (Moves.changed u.id f ts) id ≡ Some t
found_other f u id t d k [] h e = absurd (none-some t e)
found_other f u id t d k (x ∷ ts) h e = go (x.id == u.id) refl h (found_other f u id t d k ts)
  where
    skip : (y : Thread) → (y.id ≡ id → ⊥) → (rest : List Thread) → Tables.thread_in (y ∷ rest) id ≡ Tables.thread_in rest id
    skip y n rest = ap (λ (b : Bool). if b then Some y else Tables.thread_in rest id) (ne_eqb y.id id n)

    go : (b : Bool) → (x.id == u.id) ≡ b → (if b then Some x else Tables.thread_in ts u.id) ≡ Some u → (Tables.thread_in ts u.id ≡ Some u → Tables.thread_in ts id ≡ Some t → Tables.thread_in (Moves.changed u.id f ts) id ≡ Some t)
        → Tables.thread_in (if b then f x ∷ ts else x ∷ Moves.changed u.id f ts) id ≡ Some t
    go true q s r =
        let xu = same_Some x u s in
        let k' : (f x).id ≡ u.id = ap (λ (y : Thread). (f y).id) xu ∙ k in
        skip (f x) (λ z. d (sym k' ∙ z)) ts ∙ (sym (skip x (λ z. d (sym (ap (λ (y : Thread). y.id) xu) ∙ z)) ts) ∙ e)
    go false q s r = inner (x.id == id) e
      where
        inner : (b : Bool) → (if b then Some x else Tables.thread_in ts id) ≡ Some t → (if b then Some x else Tables.thread_in (Moves.changed u.id f ts) id) ≡ Some t
        inner true z = z
        inner false z = r s z

found_dropped : (i id : ℕ) (t : Thread) → (i ≡ id → ⊥) → (ts : List Thread) → Tables.thread_in ts id ≡ Some t → Tables.thread_in (Moves.dropped i ts) id ≡ Some t
found_dropped i id t d [] e = absurd (none-some t e)
found_dropped i id t d (x ∷ ts) e = go (x.id == i) refl (found_dropped i id t d ts)
  where
    skip : (x.id ≡ id → ⊥) → Tables.thread_in (x ∷ ts) id ≡ Tables.thread_in ts id
    skip n = ap (λ (b : Bool). if b then Some x else Tables.thread_in ts id) (ne_eqb x.id id n)

    go : (b : Bool) → (x.id == i) ≡ b → (Tables.thread_in ts id ≡ Some t → Tables.thread_in (Moves.dropped i ts) id ≡ Some t) → Tables.thread_in (if b then ts else x ∷ Moves.dropped i ts) id ≡ Some t
    go true q r = sym (skip (λ z. d (sym (eqb-true x.id i q) ∙ z))) ∙ e
    go false q r = inner (x.id == id) e
      where
        inner : (b : Bool) → (if b then Some x else Tables.thread_in ts id) ≡ Some t → (if b then Some x else Tables.thread_in (Moves.dropped i ts) id) ≡ Some t
        inner true z = z
        inner false z = r z

found_filter : (p : Thread → Bool) (id : ℕ) (t : Thread) → p t ≡ true → (ts : List Thread) → Tables.thread_in ts id ≡ Some t → Tables.thread_in (filter p ts) id ≡ Some t
found_filter p id t h [] e = absurd (none-some t e)
found_filter p id t h (x ∷ ts) e = go (p x) refl (found_filter p id t h ts)
  where
    skip : (b : Bool) → (if b then Some x else Tables.thread_in ts id) ≡ Some t → p x ≡ false → Tables.thread_in ts id ≡ Some t
    skip true q n = absurd (true≢false (sym h ∙ (ap p (sym (same_Some x t q)) ∙ n)))
    skip false q n = q

    go : (b : Bool) → p x ≡ b → (Tables.thread_in ts id ≡ Some t → Tables.thread_in (filter p ts) id ≡ Some t) → Tables.thread_in (cond b (x ∷ filter p ts) (filter p ts)) id ≡ Some t
    go true q r = inner (x.id == id) e
      where
        inner : (b : Bool) → (if b then Some x else Tables.thread_in ts id) ≡ Some t → (if b then Some x else Tables.thread_in (filter p ts) id) ≡ Some t
        inner true z = z
        inner false z = r z
    go false q r = r (skip (x.id == id) e q)

found-append : (id : ℕ) (t : Thread) (ts us : List Thread) → Tables.thread_in ts id ≡ Some t → Tables.thread_in (ts ++ us) id ≡ Some t
found-append id t [] us e = absurd (none-some t e)
found-append id t (x ∷ ts) us e = go (x.id == id) e (found-append id t ts us)
  where
    go : (b : Bool) → (if b then Some x else Tables.thread_in ts id) ≡ Some t → (Tables.thread_in ts id ≡ Some t → Tables.thread_in (ts ++ us) id ≡ Some t) → (if b then Some x else Tables.thread_in (ts ++ us) id) ≡ Some t
    go true q r = q
    go false q r = r q

is_in-more : (g : ℕ) (xs ys : List ℕ) → IsIn g xs → IsIn g (xs ++ ys)
is_in-more g [] ys h = absurd h
is_in-more g (x ∷ xs) ys (inl e) = inl e
is_in-more g (x ∷ xs) ys (inr h) = inr (is_in-more g xs ys h)

in_stop_no_enter : (l : Life) → Lives.is_in_stop l ≡ true → TraceeStops.may_enter l ≡ true → ⊥
in_stop_no_enter (life.InStop s) h m = true≢false (sym m)
in_stop_no_enter life.Free h m = true≢false (sym h)
in_stop_no_enter life.Stopped h m = true≢false (sym h)
in_stop_no_enter life.Listening h m = true≢false (sym h)
in_stop_no_enter (life.Leaving s told) h m = true≢false (sym h)
in_stop_no_enter (life.Dead s) h m = true≢false (sym h)
in_stop_no_enter life.Execing h m = true≢false (sym h)

in_stop_not_dead : (l : Life) → Lives.is_in_stop l ≡ true → Lives.is_dead l ≡ false
in_stop_not_dead (life.InStop s) h = refl
in_stop_not_dead (life.Dead s) h = absurd (true≢false (sym h))
in_stop_not_dead life.Free h = refl
in_stop_not_dead life.Stopped h = refl
in_stop_not_dead life.Listening h = refl
in_stop_not_dead (life.Leaving s told) h = refl
in_stop_not_dead life.Execing h = refl

in_stop_not_execing : (l : Life) → Lives.is_in_stop l ≡ true → Lives.is_execing l ≡ true → ⊥
in_stop_not_execing life.Execing h m = true≢false (sym h)
in_stop_not_execing (life.InStop s) h m = true≢false (sym m)
in_stop_not_execing life.Free h m = true≢false (sym h)
in_stop_not_execing life.Stopped h m = true≢false (sym h)
in_stop_not_execing life.Listening h m = true≢false (sym h)
in_stop_not_execing (life.Leaving s told) h m = true≢false (sym h)
in_stop_not_execing (life.Dead s) h m = true≢false (sym h)

-- The stopped thread stays as it is, or one of the causes has come

module _ (id a g : ℕ) (Flag : Type 0) where
  record Still (T : Table) : Type 0 where
    thread : Thread
    found : Tables.thread_of T id ≡ Some thread
    stopped : Lives.is_in_stop thread.life ≡ true
    tracer : Threads.tracer_of thread.trace ≡ Some a
    group : thread.group ≡ g
    silent : thread.report ≡ None

  abbrev Stays : Work → Type 0
  Stays w = (Still w.table ⊎ IsIn g w.dying) ⊎ Flag

  -- a move that leaves the groups that die, and the thread where it still stands
  moving : (v w : Work) → v.dying ≡ w.dying → (Still w.table → Still v.table ⊎ Flag) → Stays w → Stays v
  moving v w d f (inr c) = inr c
  moving v w d f (inl (inr i)) = inl (inr (subst (IsIn g) (sym d) i))
  moving v w d f (inl (inl s)) = go (f s)
    where
      go : Still v.table ⊎ Flag → Stays v
      go (inl s) = inl (inl s)
      go (inr c) = inr c

  abbrev may_restart : Leave → Type 0
  may_restart l = l.id ≡ id → l.tracer ≡ Some a → Flag

  abbrev may_break : ℕ → ℕ → Type 0
  may_break h x = h ≡ g → (x ≡ id → ⊥) → Flag

  same_calm : (f : Thread → Thread) (t : Thread) → Calm t (f t) → t.report ≡ None → (f t).report ≡ None
  same_calm f t c n = go c.reports
    where
      go : (((f t).report ≡ None) ⊎ (((f t).report ≡ t.report) × (Threads.tracer_of (f t).trace ≡ Threads.tracer_of t.trace))) → (f t).report ≡ None
      go (inl e) = e
      go (inr e) = e.0 ∙ n

  alter-stays : (f : Thread → Thread) → ((t : Thread) → Tame t (f t)) → (w : Work) → Stays w → Stays (Moves.alter f w)
  alter-stays f h w = moving (Moves.alter f w) w refl (λ s.
      let c = (h s.thread).calm in let k = (h s.thread).stays a s.stopped s.tracer in
      inl (record { thread = f s.thread; found = found_map f (λ x. (h x).calm.id) id s.thread w.table.threads s.found; stopped = k.0; tracer = k.1; group = c.group ∙ s.group; silent = same_calm f s.thread c s.silent }))

  changing-stays : (fate : Fate) (f : Thread → Thread) (t : Thread) → Calm t (f t) → may_restart (leave t) → (w : Work) → Tables.thread_of w.table t.id ≡ Some t → Stays w → Stays (Moves.change_ending fate f t w)
  changing-stays fate f t c r w e = moving (Moves.change_ending fate f t w) w refl (λ s. go s (cases_eq t.id id))
    where
      go : Still w.table → (t.id ≡ id) ⊎ (t.id ≡ id → ⊥) → Still (Moves.change_ending fate f t w).table ⊎ Flag
      go s (inl i) = let st = same_Some s.thread t (sym s.found ∙ (ap (Tables.thread_in w.table.threads) (sym i) ∙ e)) in inr (r i (ap (λ (x : Thread). Threads.tracer_of x.trace) (sym st) ∙ s.tracer))
      go s (inr d) = inl (record { thread = s.thread; found = found_other f t id s.thread d c.id w.table.threads e s.found; stopped = s.stopped; tracer = s.tracer; group = s.group; silent = s.silent })

  -- a change throughout another group
  elsewhere : (h : ℕ) (f : Thread → Thread) → ((t : Thread) → Calm t (f t)) → (h ≡ g → ⊥) → (ts : List Thread) → (s : Thread) → s.group ≡ g → Tables.thread_in ts id ≡ Some s → Tables.thread_in (map (Threads.at_group h f) ts) id ≡ Some s
  elsewhere h f c d ts s k e = found_map (Threads.at_group h f) (λ x. (calm_throughout h f c x).id) id s ts e ∙ ap Some (stays (s.group == h) refl)
    where
      stays : (b : Bool) → (s.group == h) ≡ b → (if b then f s else s) ≡ s
      stays true q = absurd (d (sym (eqb-true s.group h q) ∙ k))
      stays false q = refl

  death-stays : (h : ℕ) (st : End) (kill : Bool) (w : Work) → Stays w → Stays (Deaths.begin_death h st kill w)
  death-stays h st kill w (inr c) = inr c
  death-stays h st kill w (inl (inr i)) = inl (inr (is_in-more g w.dying (h ∷ []) i))
  death-stays h st kill w (inl (inl s)) = go (cases_eq h g)
    where
      go : (h ≡ g) ⊎ (h ≡ g → ⊥) → Stays (Deaths.begin_death h st kill w)
      go (inl e) = inl (inr (subst (λ k. IsIn k (w.dying ++ h ∷ [])) e (is_in-last h w.dying)))
      go (inr d) = inl (inl (record { thread = s.thread; found = elsewhere h (TraceeEnds.begun_to_leave kill _) (calm_broken kill _) d w.table.threads s.thread s.group s.found; stopped = s.stopped; tracer = s.tracer; group = s.group; silent = s.silent }))

  -- an exec leaves the thread that makes it
  itself_left : (h x : ℕ) (e : End) (s : Thread) → s.id ≡ x → Threads.at_group h (TraceeEnds.begun_to_leave_by_exec x e) s ≡ s
  itself_left h x e s i = outer (s.group == h)
    where
      inner : (b : Bool) → b ≡ true → (if b then s else TraceeEnds.begun_to_leave false (TraceeEnds.own_end e s.life) s) ≡ s
      inner true q = refl
      inner false q = absurd (true≢false (sym q))

      outer : (b : Bool) → (if b then TraceeEnds.begun_to_leave_by_exec x e s else s) ≡ s
      outer true = inner (s.id == x) (eq-eqb s.id x i)
      outer false = refl

  break-stays : (h x : ℕ) → may_break h x → (w : Work) → Stays w → Stays (Execs.break_others h x w)
  break-stays h x b w = moving (Execs.break_others h x w) w refl (λ s. go s (cases_eq h g) (cases_eq x id))
    where
      left : (s : Still w.table) → Tables.thread_in (map (Threads.at_group h (TraceeEnds.begun_to_leave_by_exec x (ending.Exited 0))) w.table.threads) id ≡ Some s.thread → Still (Execs.break_others h x w).table ⊎ Flag
      left s e = inl (record { thread = s.thread; found = e; stopped = s.stopped; tracer = s.tracer; group = s.group; silent = s.silent })

      go : Still w.table → (h ≡ g) ⊎ (h ≡ g → ⊥) → (x ≡ id) ⊎ (x ≡ id → ⊥) → Still (Execs.break_others h x w).table ⊎ Flag
      go s (inl e) (inr n) = inr (b e n)
      go s (inl e) (inl i) = left s (found_map (Threads.at_group h (TraceeEnds.begun_to_leave_by_exec x (ending.Exited 0))) (λ y. (calm_throughout h (TraceeEnds.begun_to_leave_by_exec x (ending.Exited 0)) (calm_broken_by_exec x (ending.Exited 0)) y).id) id s.thread w.table.threads s.found ∙ ap Some (itself_left h x (ending.Exited 0) s.thread (found_id w.table.threads id s.thread s.found ∙ sym i)))
      go s (inr d) n = left s (elsewhere h (TraceeEnds.begun_to_leave_by_exec x (ending.Exited 0)) (calm_broken_by_exec x (ending.Exited 0)) d w.table.threads s.thread s.group s.found)

  -- a report raised on a thread that isn't in a stop
  raising-stays : (f : Thread → Thread) (t : Thread) (st : Status) → (f t).id ≡ t.id → (Lives.is_in_stop t.life ≡ true → ⊥) → (w : Work) → Tables.thread_of w.table t.id ≡ Some t → Stays w → Stays (Moves.raise_with f t st w)
  raising-stays f t st k n w e = moving (Moves.raise_with f t st w) w refl (λ s. go s (cases_eq t.id id))
    where
      go : Still w.table → (t.id ≡ id) ⊎ (t.id ≡ id → ⊥) → Still (Moves.raise_with f t st w).table ⊎ Flag
      go s (inl i) = let st = same_Some s.thread t (sym s.found ∙ (ap (Tables.thread_in w.table.threads) (sym i) ∙ e)) in absurd (n (ap (λ (x : Thread). Lives.is_in_stop x.life) (sym st) ∙ s.stopped))
      go s (inr d) = inl (record { thread = s.thread; found = found_other f t id s.thread d k w.table.threads e s.found; stopped = s.stopped; tracer = s.tracer; group = s.group; silent = s.silent })

  at-stays : (i : ℕ) (move : Thread → Work → Work) (w : Work) → ((t : Thread) → Tables.thread_of w.table t.id ≡ Some t → Stays (move t w)) → Stays w → Stays (Moves.at i move w)
  at-stays i move w h d = go (Tables.thread_of w.table i) refl
    where
      go : (o : Option Thread) → Tables.thread_of w.table i ≡ o → Stays (Moves.on_thread o move w)
      go None e = d
      go (Some t) e = h t (itself w.table.threads i t e)

  entering-stays : (t : Thread) (s : Stop) (w : Work) → Tables.thread_of w.table t.id ≡ Some t → Stays w → Stays (Moves.enter_if_allowed s t w)
  entering-stays t s w e p = go (TraceeStops.may_enter t.life) refl
    where
      go : (b : Bool) → TraceeStops.may_enter t.life ≡ b → Stays (if b then Moves.entered_now s t w else w)
      go true m = raising-stays (λ x. TraceeStops.reported (w.table.raised + 1) (Lives.status_of_stop s) (TraceeStops.entered s x)) t (Lives.status_of_stop s) refl (λ h. in_stop_no_enter t.life h m) w e p
      go false m = p

  holding-stays : (t : Thread) (o : Option Instance) (w : Work) → Tables.thread_of w.table t.id ≡ Some t → Stays w → Stays (Moves.on_instance o (Moves.holding t) w)
  holding-stays t None w e p = p
  holding-stays t (Some i) w e p = go (Lives.is_free t.life)
    where
      go : (b : Bool) → Stays (if b then Moves.enter_if_allowed (stop.Signal i false) t (Moves.pulled i w) else w)
      go true = entering-stays t (stop.Signal i false) (Moves.pulled i w) e (moving (Moves.pulled i w) w refl (λ s. inl (again s)) p)
        where
          again : Still w.table → Still (Moves.pulled i w).table
          again s = record { thread = s.thread; found = s.found; stopped = s.stopped; tracer = s.tracer; group = s.group; silent = s.silent }
      go false = p

  dead-stays : (st : End) (t : Thread) (w : Work) → Tables.thread_of w.table t.id ≡ Some t → Stays w → Stays (Moves.report_dead st t w)
  dead-stays st t w e p = go (Lives.is_dead t.life) refl
    where
      go : (b : Bool) → (Lives.is_dead t.life) ≡ b → Stays (if b then Moves.raise t (Lives.status_of_end st) w else w)
      go true d = raising-stays (TraceeStops.reported (w.table.raised + 1) (Lives.status_of_end st)) t (Lives.status_of_end st) refl (λ h. true≢false (sym d ∙ in_stop_not_dead t.life h)) w e p
      go false d = p

  again : (T U : Table) → U.threads ≡ T.threads → Still T → Still U ⊎ Flag
  again T U e s = inl (record { thread = s.thread; found = ap (λ ts. Tables.thread_in ts id) e ∙ s.found; stopped = s.stopped; tracer = s.tracer; group = s.group; silent = s.silent })

  spawned-stays : (i : ℕ) (mark : Bool) (t : Thread) (w : Work) → Stays w → Stays (Moves.spawned i mark t w)
  spawned-stays i mark t w p = go (Lives.is_free t.life)
    where
      go : (b : Bool) → Stays (if b then Moves.added (TraceeEnds.child i mark t) w else w)
      go true = moving (Moves.added (TraceeEnds.child i mark t) w) w refl (λ s. inl (record { thread = s.thread; found = found-append id s.thread w.table.threads (TraceeEnds.child i mark t ∷ []) s.found; stopped = s.stopped; tracer = s.tracer; group = s.group; silent = s.silent })) p
      go false = p

  remove-stays : (p : Thread → Bool) (w : Work) → Stays w → Stays (Moves.remove_dead p w)
  remove-stays p w = moving (Moves.remove_dead p w) w refl (λ s. inl (record { thread = s.thread; found = found_filter (λ t. not (p t && Lives.is_dead t.life)) id s.thread (ap not (and_right (p s.thread) _ (in_stop_not_dead s.thread.life s.stopped))) w.table.threads s.found; stopped = s.stopped; tracer = s.tracer; group = s.group; silent = s.silent }))

  placed-stays : (t : Thread) (w : Work) → Tables.thread_of w.table t.id ≡ Some t → Stays w → Stays (Moves.taking_place t w)
  placed-stays t w e p = go (Lives.is_execing t.life && not (t.id == t.group)) refl
    where
      ids : (x : Thread) → (Moves.in_leaders_row t x).id ≡ x.id
      ids x = at_place (x.id == t.group && Lives.is_dead x.life) refl
        where
          at_place : (b : Bool) → (x.id == t.group && Lives.is_dead x.life) ≡ b → (if b then Moves.renamed t.group t else x).id ≡ x.id
          at_place true q = sym (eqb-true x.id t.group (and_parts _ _ q).0)
          at_place false q = refl

      kept : (s : Thread) → Lives.is_in_stop s.life ≡ true → Moves.in_leaders_row t s ≡ s
      kept s h = at_place (s.id == t.group && Lives.is_dead s.life) (and_right (s.id == t.group) _ (in_stop_not_dead s.life h))
        where
          at_place : (b : Bool) → b ≡ false → (if b then Moves.renamed t.group t else s) ≡ s
          at_place true q = absurd (true≢false q)
          at_place false q = refl

      go : (b : Bool) → (Lives.is_execing t.life && not (t.id == t.group)) ≡ b → Stays (if b then Moves.with_leaders_row t w else w)
      go true q = moving (Moves.with_leaders_row t w) w refl (λ s. inl (record {
        thread = s.thread;
        found = found_map (Moves.in_leaders_row t) ids id s.thread _ (found_dropped t.id id s.thread (λ i. differs s i) w.table.threads s.found) ∙ ap Some (kept s.thread s.stopped);
        stopped = s.stopped;
        tracer = s.tracer;
        group = s.group;
        silent = s.silent;
      })) p
        where
          differs : Still w.table → t.id ≡ id → ⊥
          differs s i = let st = same_Some s.thread t (sym s.found ∙ (ap (Tables.thread_in w.table.threads) (sym i) ∙ e)) in in_stop_not_execing s.thread.life s.stopped (ap (λ (x : Thread). Lives.is_execing x.life) st ∙ (and_parts _ _ q).0)
      go false q = p

  moves-stay : Kept may_restart may_break Stays
  moves-stay = record {
    alter = alter-stays;
    resume = λ fate live t r w e p. changing-stays fate TraceeStops.restarted t (calm_restarted t) r w e p;
    listen = λ t r w e p. changing-stays Flushed TraceeStops.listening t (calm_listening t) r w e p;
    break_others = break-stays;
    begin_death = death-stays;
    kill_group = λ h w p. death-stays h (ending.Killed 9) true (Moves.tell_killed h w) (moving (Moves.tell_killed h w) w refl (again w.table w.table refl) p);
    enter = λ i s h w p. at-stays i (Moves.enter_if_allowed s) w (λ t e. entering-stays t s w e p) p;
    hold = λ i n w p. at-stays i (λ t. Moves.on_instance (Moves.instance_in w.table.waiting n) (Moves.holding t)) w (λ t e. holding-stays t _ w e p) p;
    report_death = λ i s w p. at-stays i (Moves.report_dead s) w (λ t e. dead-stays s t w e p) p;
    spawn = λ parent i mark w n p. at-stays parent (Moves.spawned i mark) w (λ t e. spawned-stays i mark t w p) p;
    remove_dead = remove-stays;
    take_place = λ i w p. at-stays i Moves.taking_place w (λ t e. placed-stays t w e p) p;
    regroup = λ f h w p. moving (Moves.regroup f w) w refl (again w.table (Moves.regroup f w).table refl) p;
    note = λ h s w p. moving (Moves.note h s w) w refl (again w.table (Moves.note h s w).table refl) p;
    drop_empty = λ h w p. moving (Moves.drop_empty h w) w refl (again w.table (Moves.drop_empty h w).table refl) p;
    enqueue = λ s i q w p. moving (Moves.enqueue s i q w) w refl (again w.table (Moves.enqueue s i q w).table refl) p;
    accept_as = λ fate live w p. moving (Moves.accept_as fate w) w refl (again w.table (Moves.accept_as fate w).table refl) p;
    end_waiting = λ fate live q w p. moving (Moves.end_waiting fate q w) w refl (again w.table (Moves.end_waiting fate q w).table refl) p;
  }

-- Entries

restarts_by : (id a g : ℕ) (T : Table) (b : ℕ) (e : Event) → MayRestart (may_restart id a g (IsRestart id a g T b e)) b e
restarts_by id a g T b (event.Cont x s) = λ l h i t. sym h ∙ i
restarts_by id a g T b (event.Listen x) = λ l h i t. sym h ∙ i
restarts_by id a g T b (event.Detach x s) = λ l h i t. sym h ∙ i
restarts_by id a g T b event.TracerExit = λ l h i t. same_Some b a (sym h ∙ t)
restarts_by id a g T b _ = tt

execs_by : (id a g : ℕ) (T : Table) (b : ℕ) (e : Event) → MayExec (may_break id a g (IsRestart id a g T b e)) T e
execs_by id a g T b (event.Exec x) = λ t h k n. (λ i. n (found_id T.threads x t h ∙ i), (t, h, k))
execs_by id a g T b _ = tt

entry_still : (id a g : ℕ) (T : Table) (e : Entry) → Steps.Admits T e.actor e.event e.choice → Still id a g ⊥ T → Still id a g ⊥ (Steps.work_of T e).table ⊎ Restarts id a g T e
entry_still id a g T e h s = go (entry-kept (may_restart id a g F) (may_break id a g F) (Stays id a g F) (moves-stay id a g F) T e (restarts_by id a g T e.actor e.event) (execs_by id a g T e.actor e.event) (admits_new T e.actor e.event e.choice h) (inl (inl start)))
  where
    F : Type 0
    F = IsRestart id a g T e.actor e.event

    start : Still id a g (IsRestart id a g T e.actor e.event) T
    start = record { thread = s.thread; found = s.found; stopped = s.stopped; tracer = s.tracer; group = s.group; silent = s.silent }

    go : Stays id a g (IsRestart id a g T e.actor e.event) (Steps.work_of T e) → Still id a g ⊥ (Steps.work_of T e).table ⊎ Restarts id a g T e
    go (inr f) = inr (inl f)
    go (inl (inr i)) = inr (inr i)
    go (inl (inl s)) = inl (record { thread = s.thread; found = s.found; stopped = s.stopped; tracer = s.tracer; group = s.group; silent = s.silent })

replay_still : (id a g : ℕ) (T U : Table) (es : List Entry) (rs : List Reply) → Still id a g ⊥ T → Journals.Replay T es rs U → Still id a g ⊥ U ⊎ SomeRestarts id a g T es
replay_still id a g T U [] [] s r = inl (subst (Still id a g ⊥) (sym r) s)
replay_still id a g T U [] (x ∷ rs) s r = absurd r
replay_still id a g T U (e ∷ es) [] s r = absurd r
replay_still id a g T U (e ∷ es) (x ∷ rs) s r = go (entry_still id a g T e r.1.choice s) (λ h. replay_still id a g (Steps.work_of T e).table U es rs h (subst (λ M. Journals.Replay M es rs U) r.1.table r.2))
  where
    more : Still id a g ⊥ U ⊎ SomeRestarts id a g (Steps.work_of T e).table es → Still id a g ⊥ U ⊎ SomeRestarts id a g T (e ∷ es)
    more (inl h) = inl h
    more (inr h) = inr (inr h)

    go : Still id a g ⊥ (Steps.work_of T e).table ⊎ Restarts id a g T e → (Still id a g ⊥ (Steps.work_of T e).table → Still id a g ⊥ U ⊎ SomeRestarts id a g (Steps.work_of T e).table es) → Still id a g ⊥ U ⊎ SomeRestarts id a g T (e ∷ es)
    go (inr h) ih = inr (inl h)
    go (inl h) ih = more (ih h)

-- settling touches no thread

settles_threads : (w : Work) (xs : List ℕ) → (Moves.each xs GroupStops.complete_group_stop w).table.threads ≡ w.table.threads
settles_threads w [] = refl
settles_threads w (x ∷ xs) = settles_threads (GroupStops.complete_group_stop x w) xs ∙ one_group (GroupKinds.is_stopping (Tables.stop_of (Tables.group_of w.table x)) && not (Tables.has_stop_mark w.table x))
  where
    noted : (b : Bool) (s : Signal) (v : Work) → (if b then Moves.note x (status.Stopped s) v else v).table.threads ≡ v.table.threads
    noted true s v = refl
    noted false s v = refl

    by_signal : (o : Option Signal) (v : Work) → (GroupStops.note_stop x o v).table.threads ≡ v.table.threads
    by_signal None v = refl
    by_signal (Some s) v = noted (not (Tables.has_traced v.table x)) s v

    one_group : (b : Bool) → (if b then GroupStops.complete_stop x w else w).table.threads ≡ w.table.threads
    one_group true = by_signal (Tables.stop_in_effect w.table x) (Moves.regroup (Moves.only_group x GroupStops.completed_group) w)
    one_group false = refl

-- the wait leaves the thread in its stop, with no report

tracer_of_found : (T : Table) (a : ℕ) (which : Which) (r : ℕ) (t : Thread) → Waits.ready_thread T a which r ≡ Some t → Threads.tracer_of t.trace ≡ Some a
tracer_of_found T a which r t e =
    let f = found_in r t _ e in
    tracer_is a t.trace (member_filter _ t T.threads (member_filter _ t (Tracers.tracees T a) f.0).0).1

waited_still : (T : Table) (e : Entry) (t : Thread) → WaitsFor T e t → Still t.id e.actor t.group ⊥ (Steps.work_of T e).table
waited_still T e t w = subst (λ ev. Still t.id e.actor t.group ⊥ (GroupStops.complete_group_stops (Steps.work_of_event e.actor ev e.choice (Moves.begin T))).table) (sym w.2) by_wait
  where
    not_dead : (b : Bool) → b ≡ false → (if b then (if Threads.is_leader t then Ends.pass_on t t.report (Moves.begin T) else Ends.remove_thread t (Moves.begin T)) else Moves.alter (Threads.at_thread t.id TraceeStops.without_report) (Moves.begin T)) ≡ Moves.alter (Threads.at_thread t.id TraceeStops.without_report) (Moves.begin T)
    not_dead true h = absurd (true≢false h)
    not_dead false h = refl

    by_wait : Still t.id e.actor t.group ⊥ (GroupStops.complete_group_stops (Moves.on_thread (Waits.ready_thread T e.actor w.0 (Steps.number e.choice.report)) Waits.consume (Moves.begin T))).table
    by_wait =
        let v : Work = Moves.alter (Threads.at_thread t.id TraceeStops.without_report) (Moves.begin T) in
        let c : Moves.on_thread (Waits.ready_thread T e.actor w.0 (Steps.number e.choice.report)) Waits.consume (Moves.begin T) ≡ v = ap (λ o. Moves.on_thread o Waits.consume (Moves.begin T)) (ap (Waits.ready_thread T e.actor w.0) (ap Steps.number w.3) ∙ w.4) ∙ not_dead (Lives.is_dead t.life) (in_stop_not_dead t.life w.6) in
        subst (λ x. Still t.id e.actor t.group ⊥ (GroupStops.complete_group_stops x).table) (sym c)
        (record {
          thread = TraceeStops.without_report t;
          found = ap (λ ts. Tables.thread_in ts t.id) (settles_threads v (map (λ x. x.tgid) v.table.groups)) ∙ (found_map (Threads.at_thread t.id TraceeStops.without_report) (λ x. (tame_only t.id TraceeStops.without_report tame_told_nothing x).calm.id) t.id t T.threads w.5 ∙ ap Some (here t.id TraceeStops.without_report t refl));
          stopped = w.6;
          tracer = tracer_of_found T e.actor w.0 w.1 t w.4;
          group = refl;
          silent = refl;
        })

not_silent : (r : ℕ) (o : Option Report) → Waits.has_report r o ≡ true → o ≡ None → ⊥
not_silent r o h n = true≢false (sym h ∙ ap (Waits.has_report r) n)

pub restart_between : RestartBetween
restart_between T M U between rs e f x t u se we r wf same = go (replay_still t.id e.actor t.group M U between rs (subst (Still t.id e.actor t.group ⊥) (sym se.table) (waited_still T e t we)) r)
  where
    go : Still t.id e.actor t.group ⊥ U ⊎ SomeRestarts t.id e.actor t.group M between → SomeRestarts t.id e.actor t.group M between
    go (inr h) = h
    go (inl s) =
        let st = same_Some s.thread u (sym s.found ∙ (ap (Tables.thread_of U) (sym same) ∙ wf.5)) in
        absurd (not_silent wf.1 u.report (found_in wf.1 u (filter (λ t. Words.asks_for wf.0 t.id) (Tracers.tracees U f.actor)) wf.4).1 (ap (λ (y : Thread). y.report) (sym st) ∙ s.silent))
