-- A report of a stop stands at a thread that is in it.
use Rattle.std.proofs.Common.{◌≡◌, ℕ, ◌+◌, [], ◌∷◌, true, false, Some, None, Option, refl, sym, ◌∙◌, map, Bool, not, ◌&&◌, ◌==◌, ◌⊎◌, inl, inr, if◌then◌else◌, subst, unwrap_or}
use Rattle.std.proofs.lemmas.Option.{none-some}
use Rattle.tr_pending.specs.declared.instance.Instance.{Instance}
use Rattle.tr_tracee.specs.declared.thread.Report.{Report}
use Rattle.tr_wait.specs.declared.status.Status.{Status}
use Rattle.tr_tracee.specs.declared.life.End.{End}
use Rattle.tr_tracee.specs.declared.life.End.TheVariants as ending
use Rattle.tr_tracee.specs.declared.life.Stop.{Stop}
use Rattle.tr_tracee.specs.declared.life.Stop.TheVariants as stop
use Rattle.tr_tracee.specs.declared.thread.Thread.{Thread}
use Rattle.tr_model.proofs.Every.{each_map, each-append, each_filter, each_changed, each_dropped}
use Rattle.tr_model.proofs.Calm.{Tame}
use Rattle.tr_model.proofs.Kept.{Kept, any, any_of, itself}
use Rattle.tr_model.specs.Journals.{Each}
use Rattle.tr_model.specs.Laws.{IsStopStatus}
use Rattle.tr_model.specs.Moves.{Work}
use Rattle.tr_model.specs.Tables.{Table}
use Rattle.tr_tracee.specs.Lives.{held}
use Rattle.tr_model.specs.Deaths
use Rattle.tr_model.specs.Execs
use Rattle.tr_tracee.specs.Lives
use Rattle.tr_model.specs.Moves
use Rattle.tr_model.specs.Restarts
use Rattle.tr_model.specs.Tables
use Rattle.tr_tracee.specs.Threads
use Rattle.tr_tracee.specs.Ends as TraceeEnds
use Rattle.tr_tracee.specs.Stops as TraceeStops

abbrev pub Speaks : Thread → Type 0
Speaks t = (x : Report) → t.report ≡ Some x → IsStopStatus x.status → Lives.is_in_stop t.life ≡ true

pub record Spoken (w : Work) : Type 0 where
  pub each : Each Speaks w.table.threads

pub silent : (t : Thread) → t.report ≡ None → Speaks t
silent t n x e = absurd (none-some x (sym n ∙ e))

tame_speaks : (t u : Thread) → Tame t u → Speaks t → Speaks u
tame_speaks t u c h x e s = go c.calm.reports
  where
    go : ((u.report ≡ None) ⊎ ((u.report ≡ t.report) × (Threads.tracer_of u.trace ≡ Threads.tracer_of t.trace))) → Lives.is_in_stop u.life ≡ true
    go (inl n) = absurd (none-some x (sym n ∙ e))
    go (inr r) = c.stops (h x (sym r.0 ∙ e) s)

throughout_speaks : (g : ℕ) (f : Thread → Thread) → ((t : Thread) → Speaks t → Speaks (f t)) → (t : Thread) → Speaks t → Speaks (Threads.at_group g f t)
throughout_speaks g f c t h = go (t.group == g)
  where
    go : (b : Bool) → Speaks (if b then f t else t)
    go true = c t h
    go false = h

broken_speaks : (kill : Bool) (s : End) (t : Thread) → Speaks t → Speaks (TraceeEnds.begun_to_leave kill s t)
broken_speaks kill s t h = go (Lives.is_dead t.life)
  where
    go : (b : Bool) → Speaks (if b then t else TraceeEnds.leaving_with kill s t)
    go true = h
    go false = silent (TraceeEnds.leaving_with kill s t) refl

exec_speaks : (id : ℕ) (s : End) (t : Thread) → Speaks t → Speaks (TraceeEnds.begun_to_leave_by_exec id s t)
exec_speaks id s t h = go (t.id == id)
  where
    go : (b : Bool) → Speaks (if b then t else TraceeEnds.begun_to_leave false (TraceeEnds.own_end s t.life) t)
    go true = h
    go false = broken_speaks false (TraceeEnds.own_end s t.life) t h

map_spoken : (f : Thread → Thread) → ((t : Thread) → Speaks t → Speaks (f t)) → (w v : Work) → v.table.threads ≡ map f w.table.threads → Spoken w → Spoken v
map_spoken f c w v e p = record { each = subst (Each Speaks) (sym e) (each_map Speaks Speaks f c w.table.threads p.each) }

put_spoken : (f : Thread → Thread) (t : Thread) → Speaks (f t) → (w v : Work) → v.table.threads ≡ Moves.changed t.id f w.table.threads → Tables.thread_of w.table t.id ≡ Some t → Spoken w → Spoken v
put_spoken f t q w v s e p = record { each = subst (Each Speaks) (sym s) (each_changed Speaks t.id f t q w.table.threads e p.each) }

as_spoken : (w v : Work) → v.table.threads ≡ w.table.threads → Spoken w → Spoken v
as_spoken w v s p = record { each = subst (Each Speaks) (sym s) p.each }

at-spoken : (id : ℕ) (move : Thread → Work → Work) (w : Work) → ((t : Thread) → Tables.thread_of w.table t.id ≡ Some t → Spoken (move t w)) → Spoken w → Spoken (Moves.at id move w)
at-spoken id move w h d = go (Tables.thread_of w.table id) refl
  where
    go : (o : Option Thread) → Tables.thread_of w.table id ≡ o → Spoken (Moves.on_thread o move w)
    go None e = d
    go (Some t) e = h t (itself w.table.threads id t e)

entering-spoken : (t : Thread) (s : Stop) (w : Work) → Tables.thread_of w.table t.id ≡ Some t → Spoken w → Spoken (Moves.enter_if_allowed s t w)
entering-spoken t s w e d = go (TraceeStops.may_enter t.life)
  where
    go : (b : Bool) → Spoken (if b then Moves.entered_now s t w else w)
    go true = put_spoken (λ x. TraceeStops.reported (w.table.raised + 1) (Lives.status_of_stop s) (TraceeStops.entered s x)) t (λ x e k. refl) w (Moves.entered_now s t w) refl e d
    go false = d

holding-spoken : (t : Thread) (o : Option Instance) (w : Work) → Tables.thread_of w.table t.id ≡ Some t → Spoken w → Spoken (Moves.on_instance o (Moves.holding t) w)
holding-spoken t None w e d = d
holding-spoken t (Some i) w e d = go (Lives.is_free t.life)
  where
    go : (b : Bool) → Spoken (if b then Moves.enter_if_allowed (stop.Signal i false) t (Moves.pulled i w) else w)
    go true = entering-spoken t (stop.Signal i false) (Moves.pulled i w) e (as_spoken w (Moves.pulled i w) refl d)
    go false = d

end_not_stop : (e : End) → IsStopStatus (Lives.status_of_end e) → ⊥
end_not_stop (ending.Exited code) h = h
end_not_stop (ending.Killed signal) h = h

dead-spoken : (e : End) (t : Thread) (w : Work) → Tables.thread_of w.table t.id ≡ Some t → Spoken w → Spoken (Moves.report_dead e t w)
dead-spoken e t w f d = go (Lives.is_dead t.life)
  where
    named : (n : ℕ) (s : Status) (x : Report) → Some (record { number = n; status = s }) ≡ Some x → x.status ≡ s
    named n s x q = cc

    go : (b : Bool) → Spoken (if b then Moves.raise t (Lives.status_of_end e) w else w)
    go true = put_spoken (TraceeStops.reported (w.table.raised + 1) (Lives.status_of_end e)) t (λ x q k. absurd (end_not_stop e (subst IsStopStatus (named (w.table.raised + 1) (Lives.status_of_end e) x q) k))) w (Moves.raise t (Lives.status_of_end e) w) refl f d
    go false = d

spawned-spoken : (id : ℕ) (mark : Bool) (t : Thread) (w : Work) → Spoken w → Spoken (Moves.spawned id mark t w)
spawned-spoken id mark t w d = go (Lives.is_free t.life)
  where
    go : (b : Bool) → Spoken (if b then Moves.added (TraceeEnds.child id mark t) w else w)
    go true = record { each = each-append Speaks w.table.threads (TraceeEnds.child id mark t ∷ []) d.each ((λ x e. absurd (none-some x e)), tt) }
    go false = d

placed-spoken : (t : Thread) (w : Work) → Spoken w → Spoken (Moves.taking_place t w)
placed-spoken t w d = go (Lives.is_execing t.life && not (t.id == t.group))
  where
    one_place : (x : Thread) → Speaks x → Speaks (Moves.in_leaders_row t x)
    one_place x h = at_place (x.id == t.group && Lives.is_dead x.life)
      where
        at_place : (b : Bool) → Speaks (if b then Moves.renamed t.group t else x)
        at_place true = silent (Moves.renamed t.group t) refl
        at_place false = h

    go : (b : Bool) → Spoken (if b then Moves.with_leaders_row t w else w)
    go true = record { each = each_map Speaks Speaks (Moves.in_leaders_row t) one_place (Moves.dropped t.id w.table.threads) (each_dropped Speaks t.id w.table.threads d.each) }
    go false = d

death-spoken : (g : ℕ) (s : End) (kill : Bool) (w : Work) → Spoken w → Spoken (Deaths.begin_death g s kill w)
death-spoken g s kill w d =
    let now = unwrap_or (Tables.group_end w.table g) s in
    map_spoken (Threads.at_group g (TraceeEnds.begun_to_leave kill now)) (throughout_speaks g (TraceeEnds.begun_to_leave kill now) (broken_speaks kill now)) w (Deaths.begin_death g s kill w) refl d

pub moves-spoken : Kept any any_of Spoken
moves-spoken = record {
  alter = λ f h w d. map_spoken f (λ t. tame_speaks t (f t) (h t)) w (Moves.alter f w) refl d;
  resume = λ fate live t r w e d. put_spoken TraceeStops.restarted t (silent (TraceeStops.restarted t) refl) w (Restarts.resume fate t w) refl e d;
  listen = λ t r w e d. put_spoken TraceeStops.listening t (silent (TraceeStops.listening t) refl) w (Restarts.listen t w) refl e d;
  break_others = λ g id x w d. map_spoken (Threads.at_group g (TraceeEnds.begun_to_leave_by_exec id (ending.Exited 0))) (throughout_speaks g (TraceeEnds.begun_to_leave_by_exec id (ending.Exited 0)) (exec_speaks id (ending.Exited 0))) w (Execs.break_others g id w) refl d;
  begin_death = death-spoken;
  kill_group = λ g w d. death-spoken g (ending.Killed 9) true (Moves.tell_killed g w) (as_spoken w (Moves.tell_killed g w) refl d);
  enter = λ id s h w d. at-spoken id (Moves.enter_if_allowed s) w (λ t e. entering-spoken t s w e d) d;
  hold = λ id n w d. at-spoken id (λ t. Moves.on_instance (Moves.instance_in w.table.waiting n) (Moves.holding t)) w (λ t e. holding-spoken t _ w e d) d;
  report_death = λ id s w d. at-spoken id (Moves.report_dead s) w (λ t e. dead-spoken s t w e d) d;
  spawn = λ parent id mark w n d. at-spoken parent (Moves.spawned id mark) w (λ t e. spawned-spoken id mark t w d) d;
  remove_dead = λ p w d. record { each = each_filter Speaks _ w.table.threads d.each };
  take_place = λ id w d. at-spoken id Moves.taking_place w (λ t e. placed-spoken t w d) d;
  regroup = λ f h w d. as_spoken w (Moves.regroup f w) refl d;
  note = λ g s w d. as_spoken w (Moves.note g s w) refl d;
  drop_empty = λ g w d. as_spoken w (Moves.drop_empty g w) refl d;
  enqueue = λ s i q w d. as_spoken w (Moves.enqueue s i q w) refl d;
  accept_as = λ fate live w d. as_spoken w (Moves.accept_as fate w) refl d;
  end_waiting = λ fate live q w d. as_spoken w (Moves.end_waiting fate q w) refl d;
}
