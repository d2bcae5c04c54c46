-- No two threads have one id.
use Rattle.std.proofs.Common.{◌≡◌, ℕ, ◌+◌, ◌≤◌, List, [], ◌∷◌, ◌++◌, true, false, Some, None, Option, refl, sym, ap, ◌∙◌, Bool, not, ◌&&◌, ◌==◌, ◌⊎◌, inl, inr, if◌then◌else◌, arith, unwrap_or}
use Rattle.std.proofs.lemmas.Bool.{eqb-true, and_parts, cases_eq, ne_eqb, eq-eqb}
use Rattle.std.proofs.lemmas.Option.{none-some}
use Rattle.tr_pending.specs.declared.instance.Instance.{Instance}
use Rattle.tr_tracee.specs.declared.life.End.{End}
use Rattle.tr_tracee.specs.declared.life.End.TheVariants as ending
use Rattle.tr_tracee.specs.declared.life.Stop.{Stop}
use Rattle.tr_tracee.specs.declared.life.Stop.TheVariants as stop
use Rattle.tr_tracee.specs.declared.thread.Thread.{Thread}
use Rattle.tr_model.proofs.Calm.{Calm, calm_throughout, calm_broken, calm_broken_by_exec}
use Rattle.tr_model.proofs.Kept.{Kept, any, any_of, itself}
use Rattle.tr_model.proofs.OneFate.{one}
use Rattle.tr_model.proofs.Measures.{total, total-append, total_changed, total_dropped, total_same, total_filter}
use Rattle.tr_model.specs.Moves.{Work}
use Rattle.tr_model.specs.Tables.{Table}
use Rattle.tr_tracee.specs.Lives.{held}
use Rattle.tr_model.specs.Deaths
use Rattle.tr_model.specs.Execs
use Rattle.tr_tracee.specs.Lives
use Rattle.tr_model.specs.Moves
use Rattle.tr_model.specs.Restarts
use Rattle.tr_model.specs.Tables
use Rattle.tr_tracee.specs.Threads
use Rattle.tr_tracee.specs.Ends as TraceeEnds
use Rattle.tr_tracee.specs.Stops as TraceeStops

abbrev pub has_id : ℕ → Thread → ℕ
has_id k t = one (t.id == k)

pub record Distinct (w : Work) : Type 0 where
  pub once : (k : ℕ) → total (has_id k) w.table.threads ≤ 1

pub none_has : (k : ℕ) (ts : List Thread) → Tables.thread_in ts k ≡ None → total (has_id k) ts ≡ 0
none_has k [] e = refl
none_has k (t ∷ ts) e = go (t.id == k) e (none_has k ts)
  where
    go : (b : Bool) → (if b then Some t else Tables.thread_in ts k) ≡ None → (Tables.thread_in ts k ≡ None → total (has_id k) ts ≡ 0) → one b + total (has_id k) ts ≡ 0
    go true q r = absurd (none-some t (sym q))
    go false q r = omega (arith, r q)

same_id : (k : ℕ) (t u : Thread) → u.id ≡ t.id → has_id k u ≡ has_id k t
same_id k t u e = ap (λ (i : ℕ). one (i == k)) e

map-distinct : (f : Thread → Thread) → ((t : Thread) → Calm t (f t)) → (w : Work) → Distinct w → Distinct (Moves.alter f w)
map-distinct f c w d = record { once = λ k. omega (arith, d.once k, total_same (has_id k) f (λ t. same_id k t (f t) (c t).id) w.table.threads) }

changed-distinct : (f : Thread → Thread) (t : Thread) → (f t).id ≡ t.id → (w v : Work) → v.table.threads ≡ Moves.changed t.id f w.table.threads → Tables.thread_of w.table t.id ≡ Some t → Distinct w → Distinct v
changed-distinct f t i w v s e d = record { once = λ k. omega (arith, d.once k, total_changed (has_id k) t.id f t w.table.threads e, same_id k t (f t) i, ap (total (has_id k)) s) }

as_it_was : (w v : Work) → v.table.threads ≡ w.table.threads → Distinct w → Distinct v
as_it_was w v s d = record { once = λ k. omega (arith, d.once k, ap (total (has_id k)) s) }

at-distinct : (id : ℕ) (move : Thread → Work → Work) (w : Work) → ((t : Thread) → Tables.thread_of w.table t.id ≡ Some t → Distinct (move t w)) → Distinct w → Distinct (Moves.at id move w)
at-distinct id move w h d = go (Tables.thread_of w.table id) refl
  where
    go : (o : Option Thread) → Tables.thread_of w.table id ≡ o → Distinct (Moves.on_thread o move w)
    go None e = d
    go (Some t) e = h t (itself w.table.threads id t e)

entering-distinct : (t : Thread) (s : Stop) (w : Work) → Tables.thread_of w.table t.id ≡ Some t → Distinct w → Distinct (Moves.enter_if_allowed s t w)
entering-distinct t s w e d = go (TraceeStops.may_enter t.life)
  where
    go : (b : Bool) → Distinct (if b then Moves.entered_now s t w else w)
    go true = changed-distinct (λ x. TraceeStops.reported (w.table.raised + 1) (Lives.status_of_stop s) (TraceeStops.entered s x)) t refl w (Moves.entered_now s t w) refl e d
    go false = d

holding-distinct : (t : Thread) (o : Option Instance) (w : Work) → Tables.thread_of w.table t.id ≡ Some t → Distinct w → Distinct (Moves.on_instance o (Moves.holding t) w)
holding-distinct t None w e d = d
holding-distinct t (Some i) w e d = go (Lives.is_free t.life)
  where
    go : (b : Bool) → Distinct (if b then Moves.enter_if_allowed (stop.Signal i false) t (Moves.pulled i w) else w)
    go true = entering-distinct t (stop.Signal i false) (Moves.pulled i w) e (as_it_was w (Moves.pulled i w) refl d)
    go false = d

dead-distinct : (st : End) (t : Thread) (w : Work) → Tables.thread_of w.table t.id ≡ Some t → Distinct w → Distinct (Moves.report_dead st t w)
dead-distinct st t w e d = go (Lives.is_dead t.life)
  where
    go : (b : Bool) → Distinct (if b then Moves.raise t (Lives.status_of_end st) w else w)
    go true = changed-distinct (TraceeStops.reported (w.table.raised + 1) (Lives.status_of_end st)) t refl w (Moves.raise t (Lives.status_of_end st) w) refl e d
    go false = d

spawned-distinct : (id : ℕ) (mark : Bool) (t : Thread) (w : Work) → Tables.thread_of w.table id ≡ None → Distinct w → Distinct (Moves.spawned id mark t w)
spawned-distinct id mark t w n d = go (Lives.is_free t.life)
  where
    added : (k : ℕ) → (id ≡ k) ⊎ (id ≡ k → ⊥) → total (has_id k) (w.table.threads ++ TraceeEnds.child id mark t ∷ []) ≤ 1
    added k (inl e) = omega (arith, total-append (has_id k) w.table.threads (TraceeEnds.child id mark t ∷ []), none_has k w.table.threads (ap (Tables.thread_of w.table) (sym e) ∙ n), ap one (eq-eqb id k e))
    added k (inr e) = omega (arith, total-append (has_id k) w.table.threads (TraceeEnds.child id mark t ∷ []), d.once k, ap one (ne_eqb id k e))

    go : (b : Bool) → Distinct (if b then Moves.added (TraceeEnds.child id mark t) w else w)
    go true = record { once = λ k. added k (cases_eq id k) }
    go false = d

placed-distinct : (t : Thread) (w : Work) → Tables.thread_of w.table t.id ≡ Some t → Distinct w → Distinct (Moves.taking_place t w)
placed-distinct t w e d = go (Lives.is_execing t.life && not (t.id == t.group))
  where
    ids : (x : Thread) → (Moves.in_leaders_row t x).id ≡ x.id
    ids x = at_place (x.id == t.group && Lives.is_dead x.life) refl
      where
        at_place : (b : Bool) → (x.id == t.group && Lives.is_dead x.life) ≡ b → (if b then Moves.renamed t.group t else x).id ≡ x.id
        at_place true q = sym (eqb-true x.id t.group (and_parts _ _ q).0)
        at_place false q = refl

    go : (b : Bool) → Distinct (if b then Moves.with_leaders_row t w else w)
    go true = record { once = λ k. omega (arith, d.once k, total_same (has_id k) (Moves.in_leaders_row t) (λ x. same_id k x (Moves.in_leaders_row t x) (ids x)) (Moves.dropped t.id w.table.threads), total_dropped (has_id k) t.id t w.table.threads e) }
    go false = d

death-distinct : (g : ℕ) (s : End) (kill : Bool) (w : Work) → Distinct w → Distinct (Deaths.begin_death g s kill w)
death-distinct g s kill w d =
    let now = unwrap_or (Tables.group_end w.table g) s in
    as_it_was (Moves.alter (Threads.at_group g (TraceeEnds.begun_to_leave kill now)) w) (Deaths.begin_death g s kill w) refl (map-distinct (Threads.at_group g (TraceeEnds.begun_to_leave kill now)) (calm_throughout g (TraceeEnds.begun_to_leave kill now) (calm_broken kill now)) w d)

pub moves-distinct : Kept any any_of Distinct
moves-distinct = record {
  alter = λ f h w d. map-distinct f (λ t. (h t).calm) w d;
  resume = λ fate live t r w e d. changed-distinct TraceeStops.restarted t refl w (Restarts.resume fate t w) refl e d;
  listen = λ t r w e d. changed-distinct TraceeStops.listening t refl w (Restarts.listen t w) refl e d;
  break_others = λ g id x w d. as_it_was (Moves.alter (Threads.at_group g (TraceeEnds.begun_to_leave_by_exec id (ending.Exited 0))) w) (Execs.break_others g id w) refl (map-distinct (Threads.at_group g (TraceeEnds.begun_to_leave_by_exec id (ending.Exited 0))) (calm_throughout g _ (calm_broken_by_exec id (ending.Exited 0))) w d);
  begin_death = death-distinct;
  kill_group = λ g w d. death-distinct g (ending.Killed 9) true (Moves.tell_killed g w) (as_it_was w (Moves.tell_killed g w) refl d);
  enter = λ id s h w d. at-distinct id (Moves.enter_if_allowed s) w (λ t e. entering-distinct t s w e d) d;
  hold = λ id n w d. at-distinct id (λ t. Moves.on_instance (Moves.instance_in w.table.waiting n) (Moves.holding t)) w (λ t e. holding-distinct t _ w e d) d;
  report_death = λ id s w d. at-distinct id (Moves.report_dead s) w (λ t e. dead-distinct s t w e d) d;
  spawn = λ parent id mark w n d. at-distinct parent (Moves.spawned id mark) w (λ t e. spawned-distinct id mark t w n d) d;
  remove_dead = λ p w d. record { once = λ k. omega (arith, d.once k, total_filter (has_id k) (λ t. not (p t && Lives.is_dead t.life)) w.table.threads) };
  take_place = λ id w d. at-distinct id Moves.taking_place w (λ t e. placed-distinct t w e d) d;
  regroup = λ f h w d. as_it_was w (Moves.regroup f w) refl d;
  note = λ g s w d. as_it_was w (Moves.note g s w) refl d;
  drop_empty = λ g w d. as_it_was w (Moves.drop_empty g w) refl d;
  enqueue = λ s i q w d. as_it_was w (Moves.enqueue s i q w) refl d;
  accept_as = λ fate live w d. as_it_was w (Moves.accept_as fate w) refl d;
  end_waiting = λ fate live q w d. as_it_was w (Moves.end_waiting fate q w) refl d;
}
