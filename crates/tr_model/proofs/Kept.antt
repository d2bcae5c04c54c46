-- What every small move keeps, every step keeps.
use Rattle.std.proofs.Common.{◌≡◌, ℕ, List, [], ◌∷◌, true, false, Some, None, Option, refl, map, Bool, not, ◌==◌, sym, true≢false, ap, ◌∙◌, if◌then◌else◌, is_some}
use Rattle.std.proofs.lemmas.Bool.{eqb-true, and_parts}
use Rattle.std.proofs.lemmas.Option.{none-some, same_Some}
use Rattle.tr_group.specs.declared.stops.Action.{Action}
use Rattle.tr_pending.specs.declared.instance.Info.{Info}
use Rattle.tr_pending.specs.declared.instance.Instance.{Instance}
use Rattle.tr_tracee.specs.declared.life.End.{End}
use Rattle.tr_tracee.specs.declared.life.Life.{Life}
use Rattle.tr_tracee.specs.declared.life.Life.TheVariants as life
use Rattle.tr_tracee.specs.declared.thread.Options.{Options}
use Rattle.tr_tracee.specs.declared.thread.Report.{Report}
use Rattle.tr_sigset.specs.declared.signals.Signal.{Signal}
use Rattle.tr_wait.specs.declared.status.Status.{Status}
use Rattle.tr_wait.specs.declared.status.Status.TheVariants as status
use Rattle.tr_tracee.specs.declared.life.Stop.{Stop}
use Rattle.tr_tracee.specs.declared.life.Stop.TheVariants as stop
use Rattle.tr_model.specs.declared.rows.Target.{Target}
use Rattle.tr_model.specs.declared.rows.Target.TheVariants as target
use Rattle.tr_tracee.specs.declared.thread.Thread.{Thread}
use Rattle.tr_tracee.specs.declared.thread.Trace.{Trace}
use Rattle.tr_model.specs.declared.replies.Did.{Did}
use Rattle.tr_model.specs.declared.replies.Did.TheVariants as did
use Rattle.tr_model.specs.declared.fates.Fate.{Fate}
use Rattle.tr_model.specs.declared.fates.Fate.TheVariants.{Pending, Merged, Delivered, Suppressed, Flushed}
use Rattle.tr_model.specs.Choices.{Choice}
use Rattle.tr_model.specs.Entries.{Entry}
use Rattle.tr_model.specs.declared.events.Event.{Event}
use Rattle.tr_model.specs.declared.events.Event.TheVariants as event
use Rattle.tr_model.specs.declared.rows.Waiting.{Waiting}
use Rattle.tr_model.specs.declared.rows.Group.{Group}
use Rattle.tr_model.specs.Tables.{Table}
use Rattle.tr_model.specs.Moves.{Work}
use Rattle.tr_tracee.specs.Lives.{held}
use Rattle.tr_model.specs.Deaths
use Rattle.tr_model.specs.Ends
use Rattle.tr_model.specs.Clones
use Rattle.tr_model.specs.Execs
use Rattle.tr_model.specs.GroupStops
use Rattle.tr_tracee.specs.Lives
use Rattle.tr_tracee.specs.Marks
use Rattle.tr_model.specs.Restarts
use Rattle.tr_model.specs.Tracers
use Rattle.tr_model.specs.Tracing
use Rattle.tr_model.specs.Sends
use Rattle.tr_model.specs.Steps
use Rattle.tr_model.specs.Stops
use Rattle.tr_model.specs.Tables
use Rattle.tr_model.specs.Takes
use Rattle.tr_tracee.specs.Threads
use Rattle.tr_tracee.specs.Ends as TraceeEnds
use Rattle.tr_tracee.specs.Stops as TraceeStops
use Rattle.tr_model.specs.StarterWaits
use Rattle.tr_model.specs.Waits
use Rattle.tr_wait.specs.Words
use Rattle.tr_model.specs.Moves
use Rattle.tr_model.proofs.Calm.{Tame, CalmGroup, tame_only, tame_throughout, tame_masked, tame_paused, tame_marked, tame_joining, tame_stopped, tame_noted, tame_continued, tame_cont_noted, tame_traced_by, tame_set_options, tame_interrupted, tame_unmarked, tame_leaving, tame_dead, tame_told_nothing, tame_released, tame_execing, tame_execed, tame_untraced, calm_group, with_note, without_note}

-- a thread that is restarted, as it was in its stop
pub record Leave : Type 0 where
  pub id : ℕ
  pub group : ℕ
  pub tracer : Option ℕ

abbrev pub leave : Thread → Leave
leave t = record { id = t.id; group = t.group; tracer = Threads.tracer_of t.trace }

-- a fate that ends an instance
abbrev pub is_pending : Fate → Bool
is_pending Pending = true
is_pending _ = false

-- What each small move keeps. R says which threads may be restarted, X of which group and thread an exec may break the
-- other threads' stops.
pub record Kept (R : Leave → Type 0) (X : ℕ → ℕ → Type 0) (P : Work → Type 0) : Type 0 where
  pub alter : (f : Thread → Thread) → ((t : Thread) → Tame t (f t)) → (w : Work) → P w → P (Moves.alter f w)
  pub resume : (fate : Fate) → is_pending fate ≡ false → (t : Thread) → R (leave t) → (w : Work) → Tables.thread_of w.table t.id ≡ Some t → P w → P (Restarts.resume fate t w)
  pub listen : (t : Thread) → R (leave t) → (w : Work) → Tables.thread_of w.table t.id ≡ Some t → P w → P (Restarts.listen t w)
  pub break_others : (g id : ℕ) → X g id → (w : Work) → P w → P (Execs.break_others g id w)
  pub begin_death : (g : ℕ) (e : End) (kill : Bool) (w : Work) → P w → P (Deaths.begin_death g e kill w)
  pub kill_group : (g : ℕ) (w : Work) → P w → P (Deaths.kill_group g w)
  pub enter : (id : ℕ) (s : Stop) → held (life.InStop s) ≡ None → (w : Work) → P w → P (Moves.enter id s w)
  pub hold : (id n : ℕ) (w : Work) → P w → P (Moves.hold id n w)
  pub report_death : (id : ℕ) (e : End) (w : Work) → P w → P (Moves.report_death id e w)
  pub spawn : (parent id : ℕ) (mark : Bool) (w : Work) → Tables.thread_of w.table id ≡ None → P w → P (Moves.spawn parent id mark w)
  pub remove_dead : (p : Thread → Bool) (w : Work) → P w → P (Moves.remove_dead p w)
  pub take_place : (id : ℕ) (w : Work) → P w → P (Moves.take_place id w)
  pub regroup : (f : Group → Group) → ((x : Group) → CalmGroup x (f x)) → (w : Work) → P w → P (Moves.regroup f w)
  pub note : (g : ℕ) (s : Status) (w : Work) → P w → P (Moves.note g s w)
  pub drop_empty : (g : ℕ) (w : Work) → P w → P (Moves.drop_empty g w)
  pub enqueue : (s : ℕ) (i : Info) (q : Target) (w : Work) → P w → P (Moves.enqueue s i q w)
  pub accept_as : (fate : Fate) → is_pending fate ≡ false → (w : Work) → P w → P (Moves.accept_as fate w)
  pub end_waiting : (fate : Fate) → is_pending fate ≡ false → (p : Waiting → Bool) (w : Work) → P w → P (Moves.end_waiting fate p w)

-- The thread that an id finds

pub found_id : (ts : List Thread) (id : ℕ) (t : Thread) → Tables.thread_in ts id ≡ Some t → t.id ≡ id
found_id [] id t e = absurd (none-some t e)
found_id (x ∷ ts) id t e = go (x.id == id) refl e (found_id ts id t)
  where
    go : (b : Bool) → (x.id == id) ≡ b → (if b then Some x else Tables.thread_in ts id) ≡ Some t → (Tables.thread_in ts id ≡ Some t → t.id ≡ id) → t.id ≡ id
    go true h e ih = ap (λ (y : Thread). y.id) (sym (same_Some x t e)) ∙ eqb-true x.id id h
    go false h e ih = ih e

pub itself : (ts : List Thread) (id : ℕ) (t : Thread) → Tables.thread_in ts id ≡ Some t → Tables.thread_in ts t.id ≡ Some t
itself ts id t e = ap (Tables.thread_in ts) (found_id ts id t e) ∙ e

-- Which threads an event may restart, and in which group it may break stops by an exec
abbrev pub MayRestart : (Leave → Type 0) → ℕ → Event → Type 0
MayRestart R a (event.Cont id s) = (l : Leave) → l.id ≡ id → R l
MayRestart R a (event.Listen id) = (l : Leave) → l.id ≡ id → R l
MayRestart R a (event.Detach id s) = (l : Leave) → l.id ≡ id → R l
MayRestart R a event.TracerExit = (l : Leave) → l.tracer ≡ Some a → R l
MayRestart R a _ = Unit {0}

abbrev pub MayExec : (ℕ → ℕ → Type 0) → Table → Event → Type 0
MayExec X T (event.Exec id) = (t : Thread) → Tables.thread_of T id ≡ Some t → X t.group t.id
MayExec X T _ = Unit {0}

-- and that a clone's id is new
abbrev pub MayClone : Table → Event → Choice → Type 0
MayClone T (event.CloneThread id) c = Tables.thread_of T (Steps.number c.new_id) ≡ None
MayClone T _ c = Unit {0}

not_some : (o : Option Thread) → not (is_some o) ≡ true → o ≡ None
not_some None h = refl
not_some (Some t) h = absurd (true≢false (sym h))

pub admits_new : (T : Table) (a : ℕ) (e : Event) (c : Choice) → Steps.Admits T a e c → MayClone T e c
admits_new T a (event.CloneThread id) c h = ap (λ (d : Choice). Tables.thread_of T (Steps.number d.new_id)) h.1 ∙ not_some _ (and_parts _ _ (and_parts _ _ (and_parts _ _ h.2).1).1).0
admits_new T a _ c h = tt

pub tracer_is : (a : ℕ) (o : Option Trace) → Threads.traces a o ≡ true → Threads.tracer_of o ≡ Some a
tracer_is a None e = absurd (true≢false (sym e))
tracer_is a (Some r) e = ap Some (eqb-true r.tracer a e)

-- What the moves keep, the changes keep

module _ (R : Leave → Type 0) (X : ℕ → ℕ → Type 0) (P : Work → Type 0) (k : Kept R X P) where
  branch : (b : Bool) (x y : Work) → P x → P y → P (if b then x else y)
  branch true x y h l = h
  branch false x y h l = l

  pub only-kept : (id : ℕ) (f : Thread → Thread) → ((t : Thread) → Tame t (f t)) → (w : Work) → P w → P (Moves.alter (Threads.at_thread id f) w)
  only-kept id f h w p = k.alter (Threads.at_thread id f) (tame_only id f h) w p

  pub throughout-kept : (g : ℕ) (f : Thread → Thread) → ((t : Thread) → Tame t (f t)) → (w : Work) → P w → P (Moves.alter (Threads.at_group g f) w)
  throughout-kept g f h w p = k.alter (Threads.at_group g f) (tame_throughout g f h) w p

  pub group-kept : (g : ℕ) (f : Group → Group) → ((x : Group) → CalmGroup x (f x)) → (w : Work) → P w → P (Moves.regroup (Moves.only_group g f) w)
  group-kept g f h w p = k.regroup (Moves.only_group g f) (calm_group g f h) w p

  pub each-kept : (move : ℕ → Work → Work) → ((x : ℕ) (w : Work) → P w → P (move x w)) → (xs : List ℕ) (w : Work) → P w → P (Moves.each xs move w)
  each-kept move h [] w p = p
  each-kept move h (x ∷ xs) w p = each-kept move h xs (move x w) (h x w p)

  pub on_thread-kept : (o : Option Thread) (move : Thread → Work → Work) → ((t : Thread) (w : Work) → P w → P (move t w)) → (w : Work) → P w → P (Moves.on_thread o move w)
  on_thread-kept None move h w p = p
  on_thread-kept (Some t) move h w p = h t w p

  pub at-kept : (id : ℕ) (move : Thread → Work → Work) → ((t : Thread) (w : Work) → P w → P (move t w)) → (w : Work) → P w → P (Moves.at id move w)
  at-kept id move h w p = on_thread-kept (Tables.thread_of w.table id) move h w p

  at_found : (id : ℕ) (move : Thread → Work → Work) (w : Work) → ((t : Thread) → Tables.thread_of w.table t.id ≡ Some t → Tables.thread_of w.table id ≡ Some t → P (move t w)) → P w → P (Moves.at id move w)
  at_found id move w h p = go (Tables.thread_of w.table id) refl
    where
      go : (o : Option Thread) → Tables.thread_of w.table id ≡ o → P (Moves.on_thread o move w)
      go None e = p
      go (Some t) e = h t (itself w.table.threads id t e) e

  pub initiate-kept : (g s : ℕ) (w : Work) → P w → P (GroupStops.initiate g s w)
  initiate-kept g s w p = throughout-kept g Marks.marked tame_marked _ (group-kept g (GroupStops.beginning s) (with_note _ (λ x. refl) (λ x. refl)) w p)

  pub end_stop-kept : (g : ℕ) (w : Work) → P w → P (GroupStops.end_stop g w)
  end_stop-kept g w p = let q = throughout-kept g Marks.continued tame_continued _ (group-kept g GroupStops.ended_stop (without_note _ (λ x. refl) (λ x. refl)) w p) in branch _ _ _ (k.note g status.Continued _ q) q

  pub continue_all-kept : (g : ℕ) (w : Work) → P w → P (GroupStops.continue_all g w)
  continue_all-kept g w p = let q = throughout-kept g Marks.noted tame_noted w p in branch _ _ _ (end_stop-kept g _ q) q

  pub note_stop-kept : (g : ℕ) (s : Option Signal) (w : Work) → P w → P (GroupStops.note_stop g s w)
  note_stop-kept g None w p = p
  note_stop-kept g (Some s) w p = branch _ _ _ (k.note g (status.Stopped s) w p) p

  pub settle_group-kept : (g : ℕ) (w : Work) → P w → P (GroupStops.complete_group_stop g w)
  settle_group-kept g w p = branch _ _ _ (note_stop-kept g _ _ (group-kept g GroupStops.completed_group (with_note _ (λ x. refl) (λ x. refl)) w p)) p

  pub settle-kept : (w : Work) → P w → P (GroupStops.complete_group_stops w)
  settle-kept w p = each-kept GroupStops.complete_group_stop settle_group-kept (map (λ x. x.tgid) w.table.groups) w p

  pub act-kept : (t : Thread) (s : ℕ) (came : Bool) (d : Did) (w : Work) → P w → P (Takes.act t s came d w)
  act-kept t s came did.Caught w p = only-kept t.id _ (tame_paused false) w p
  act-kept t s came did.Ignored w p = p
  act-kept t s came did.Stopping w p = branch _ _ _ (initiate-kept t.group s w p) p
  act-kept t s came did.Dying w p = branch _ _ _ (k.kill_group t.group w p) (k.begin_death t.group _ false w p)
  act-kept t s came did.Reported w p = p

  pub act_on-kept : (t : Thread) (s : ℕ) (came : Bool) (w : Work) → P w → P (Takes.act_on t s came w)
  act_on-kept t s came w p = act-kept t s came _ w p

  pub before_send-kept : (s g : ℕ) (w : Work) → P w → P (Sends.before_send s g w)
  before_send-kept s g w p =
      branch _ _ _ (k.end_waiting Flushed refl _ w p)
      (branch _ _ _ (continue_all-kept g _ (throughout-kept g _ tame_cont_noted _ (k.end_waiting Flushed refl _ w p))) p)

  pub put-kept : (s : ℕ) (i : Info) (q : Target) (w : Work) → P w → P (Sends.put s i q w)
  put-kept s i q w p = branch _ _ _ (k.accept_as Merged refl w p) (k.enqueue s i q w p)

  pub put_unless_ignored-kept : (s : ℕ) (i : Info) (q : Target) (w : Work) → P w → P (Sends.put_unless_ignored s i q w)
  put_unless_ignored-kept s i q w p = branch _ _ _ (k.accept_as Flushed refl w p) (put-kept s i q w p)

  pub send_kill-kept : (g : ℕ) (w : Work) → P w → P (Sends.send_kill g w)
  send_kill-kept g w p = branch _ _ _ (k.accept_as Flushed refl w p) (k.kill_group g _ (k.accept_as Delivered refl w p))

  pub send_other-kept : (s : ℕ) (i : Info) (q : Target) (w : Work) → P w → P (Sends.send_other s i q w)
  send_other-kept s i q w p = branch _ _ _ (put_unless_ignored-kept s i q _ (before_send-kept s (Tables.owner w.table q) w p)) (k.accept_as Flushed refl w p)

  pub send-kept : (s : ℕ) (i : Info) (q : Target) (w : Work) → P w → P (Sends.send s i q w)
  send-kept s i q w p = branch (s == 9) _ _ (send_kill-kept _ w p) (send_other-kept s i q w p)

  pub take-kept : (t : Thread) (i : Instance) (w : Work) → P w → P (Takes.take t i w)
  take-kept t i w p = branch _ _ _ (k.hold t.id i.n w p) (act_on-kept t _ false _ (k.end_waiting Delivered refl (λ q. q.instance.n == i.n) w p))

  stop_with_holds : (b : Bool) (s : Signal) → held (life.InStop (if b then stop.Event (Words.stop_sig_of s) else stop.Group s)) ≡ None
  stop_with_holds true s = refl
  stop_with_holds false s = refl

  pub stop_with-kept : (t : Thread) (s : Signal) (w : Work) → P w → P (Stops.stop_with t s w)
  stop_with-kept t s w p = k.enter t.id _ (stop_with_holds (Threads.seized t.trace) s) w p

  pub at_stop-kept : (o : Option Signal) (move : Signal → Work → Work) → ((s : Signal) (w : Work) → P w → P (move s w)) → (w : Work) → P w → P (Stops.at_stop o move w)
  at_stop-kept None move h w p = p
  at_stop-kept (Some s) move h w p = h s w p

  pub halt-kept : (t : Thread) (w : Work) → P w → P (Stops.halt t w)
  halt-kept t w p =
      let q = only-kept t.id Marks.joining tame_joining w p in
      branch _ _ _ (at_stop-kept (Tables.stop_in_effect w.table t.group) (Stops.stop_with t) (stop_with-kept t) _ q) (only-kept t.id Marks.stopped tame_stopped _ q)

  pub trap_at-kept : (t : Thread) (o : Option Signal) (w : Work) → P w → P (Stops.trap_at t o w)
  trap_at-kept t None w p = k.enter t.id _ refl w p
  trap_at-kept t (Some s) w p = k.enter t.id _ refl _ (only-kept t.id Marks.joining tame_joining w p)

  pub trap-kept : (t : Thread) (w : Work) → P w → P (Stops.trap t w)
  trap-kept t w p = trap_at-kept t _ w p

  pub show-kept : (t : Thread) (w : Work) → P w → P (Stops.show t w)
  show-kept t w p = at-kept t.id (λ u. Stops.at_stop (Tables.stop_in_effect w.table t.group) (Stops.stop_with u)) (λ u. at_stop-kept _ _ (stop_with-kept u)) w p

  pub show_stop-kept : (t : Thread) (w : Work) → P w → P (Stops.show_stop t w)
  show_stop-kept t w p = branch _ _ _ (show-kept t w p) p

  pub trace-kept : (a : ℕ) (b : Bool) (o : Options) (t : Thread) (w : Work) → P w → P (Tracing.trace a b o t w)
  trace-kept a b o t w p = only-kept t.id (TraceeStops.traced_by _) (tame_traced_by _) w p

  pub attach-kept : (a : ℕ) (t : Thread) (w : Work) → P w → P (Tracing.attach a t w)
  attach-kept a t w p = show_stop-kept t _ (send-kept 19 _ (target.Thread t.id) _ (trace-kept a false Threads.no_options t w p))

  pub seize-kept : (a : ℕ) (o : Options) (t : Thread) (w : Work) → P w → P (Tracing.seize a o t w)
  seize-kept a o t w p = show_stop-kept t _ (trace-kept a true o t w p)

  pub inject-kept : (t : Thread) (s : ℕ) (w : Work) → P w → P (Restarts.inject t s w)
  inject-kept t s w p = branch _ _ _ (put-kept s _ (target.Thread t.id) w p) (act_on-kept t s _ _ (k.accept_as Delivered refl w p))

  pub restart_held-kept : (t : Thread) (s : ℕ) (o : Option Instance) → R (leave t) → (w : Work) → Tables.thread_of w.table t.id ≡ Some t → P w → P (Restarts.restart_held t s o w)
  restart_held-kept t s None r w e p = k.resume Flushed refl t r w e p
  restart_held-kept t s (Some i) r w e p =
      branch (s == 0) _ _ (k.resume Suppressed refl t r w e p)
      (branch (s == i.sig) _ _ (act_on-kept t s _ _ (k.resume Delivered refl t r w e p)) (inject-kept t s _ (k.resume Suppressed refl t r w e p)))

  pub restart-kept : (s : ℕ) (t : Thread) → R (leave t) → (w : Work) → Tables.thread_of w.table t.id ≡ Some t → P w → P (Restarts.restart s t w)
  restart-kept s t r w e p = restart_held-kept t s _ r w e p

  pub untrace-kept : (t : Thread) (w : Work) → P w → P (Restarts.untrace t w)
  untrace-kept t w p = only-kept t.id (TraceeStops.untraced (is_some (Tables.stop_in_effect w.table t.group))) (tame_untraced (is_some (Tables.stop_in_effect w.table t.group))) w p

  pub detach-kept : (s : ℕ) (t : Thread) → R (leave t) → (w : Work) → Tables.thread_of w.table t.id ≡ Some t → P w → P (Restarts.detach s t w)
  detach-kept s t r w e p = untrace-kept t _ (restart-kept s t r w e p)

  pub report_leader-kept : (t : Thread) (w : Work) → P w → P (Ends.report_leader t w)
  report_leader-kept t w p = k.report_death t.id _ w p

  pub remove_thread-kept : (t : Thread) (w : Work) → P w → P (Ends.remove_thread t w)
  remove_thread-kept t w p = k.drop_empty t.group _ (k.remove_dead (λ x. x.id == t.id) w p)

  pub pass_on-kept : (t : Thread) (r : Option Report) (w : Work) → P w → P (Ends.pass_on t r w)
  pass_on-kept t None w p = only-kept t.id _ tame_released w p
  pass_on-kept t (Some r) w p = report_leader-kept t _ (only-kept t.id _ tame_released w p)

  pub leave_tracer-kept : (t : Thread) → R (leave t) → (w : Work) → Tables.thread_of w.table t.id ≡ Some t → P w → P (Tracers.leave_tracer t w)
  leave_tracer-kept t r w e p =
      branch (Lives.is_dead t.life) _ _ (branch (Threads.is_leader t) _ _ (pass_on-kept t t.report w p) (remove_thread-kept t w p)) (detach-kept (Tracers.held_signal (held t.life)) t r w e p)

  pub lose_tracer-kept : (a : ℕ) → ((l : Leave) → l.tracer ≡ Some a → R l) → (t : Thread) (w : Work) → Tables.thread_of w.table t.id ≡ Some t → P w → P (Tracers.lose_tracer a t w)
  lose_tracer-kept a r t w e p = go (Threads.is_tracee_of a t) refl
    where
      go : (b : Bool) → Threads.is_tracee_of a t ≡ b → P (Moves.when b (Tracers.leave_tracer t) w)
      go true h = leave_tracer-kept t (r (leave t) (tracer_is a t.trace h)) w e p
      go false h = p

  pub exit_kill-kept : (t : Thread) (w : Work) → P w → P (Tracers.exit_kill t w)
  exit_kill-kept t w p = k.kill_group t.group _ (k.accept_as Delivered refl w p)

  pub each_at-kept : (move : Thread → Work → Work) → ((t : Thread) (w : Work) → P w → P (move t w)) → (xs : List ℕ) (w : Work) → P w → P (Moves.each xs (λ id. Moves.at id move) w)
  each_at-kept move h xs w p = each-kept (λ id. Moves.at id move) (λ id. at-kept id move h) xs w p

  each_loses : (a : ℕ) → ((l : Leave) → l.tracer ≡ Some a → R l) → (id : ℕ) (w : Work) → P w → P (Moves.at id (Tracers.lose_tracer a) w)
  each_loses a r id w p = at_found id (Tracers.lose_tracer a) w (λ t e h. lose_tracer-kept a r t w e p) p

  pub tracer_exit-kept : (a : ℕ) → ((l : Leave) → l.tracer ≡ Some a → R l) → (w : Work) → P w → P (Tracers.tracer_exit a w)
  tracer_exit-kept a r w p =
      each-kept (λ id. Moves.at id (Tracers.lose_tracer a)) (each_loses a r) (Tables.ids_of (Tracers.tracees w.table a)) _
      (each_at-kept Tracers.exit_kill exit_kill-kept (Tables.ids_of (Tracers.to_kill w.table a)) w p)

  pub last_death-kept : (g : ℕ) (w : Work) → P w → P (Ends.last_death g w)
  last_death-kept g w p = at-kept g Ends.report_leader report_leader-kept _ (k.end_waiting Flushed refl (λ q. Tables.same_target (target.Group g) q.target) w p)

  pub bury-kept : (t : Thread) (s : End) (w : Work) → P w → P (Ends.bury t s w)
  bury-kept t s w p = branch (Threads.is_leader t) _ _ p (branch (Threads.is_traced t) _ _ (k.report_death t.id (Ends.reported_end w.table t s) w p) (k.remove_dead (λ x. x.id == t.id) w p))

  pub dead_now-kept : (t : Thread) (w : Work) → P w → P (Ends.die_and_flush t w)
  dead_now-kept t w p = k.end_waiting Flushed refl (λ q. Tables.same_target (target.Thread t.id) q.target) _ (only-kept t.id _ tame_dead w p)

  pub last-kept : (g : ℕ) (w : Work) → P w → P (Ends.report_if_last g w)
  last-kept g w p = branch _ _ _ (last_death-kept g w p) p

  pub die-kept : (t : Thread) (l : Life) (w : Work) → P w → P (Ends.die t l w)
  die-kept t (life.Leaving s told) w p = branch _ _ _ (last-kept t.group _ (bury-kept t s _ (dead_now-kept t w p))) (k.enter t.id _ refl w p)
  die-kept t _ w p = p

  pub exit-kept : (t : Thread) (code : ℕ) (w : Work) → P w → P (Ends.exit t code w)
  exit-kept t code w p = let q = only-kept t.id _ tame_unmarked w p in branch _ _ _ (k.enter t.id _ refl _ q) (only-kept t.id (TraceeEnds.leaving _) (tame_leaving _) _ q)

  pub clone_stop-kept : (t : Thread) (id : ℕ) (w : Work) → P w → P (Clones.clone_stop t id w)
  clone_stop-kept t id w p = let q = k.enter t.id (stop.Clone id) refl w p in branch _ _ _ (k.enqueue 19 _ (target.Thread id) _ q) q

  pub clone-kept : (t : Thread) (id : ℕ) (w : Work) → Tables.thread_of w.table id ≡ None → P w → P (Clones.clone t id w)
  clone-kept t id w n p = let q = k.spawn t.id id (is_some (Tables.stop_in_effect w.table t.group)) w n p in branch _ _ _ (clone_stop-kept t id _ q) q

  pub trap_new-kept : (t : Thread) (w : Work) → P w → P (Execs.trap_new t w)
  trap_new-kept t w p = branch _ _ _ (send-kept 5 _ (target.Thread t.id) w p) p

  pub new_program-kept : (former : ℕ) (t : Thread) (w : Work) → P w → P (Execs.new_program former t w)
  new_program-kept former t w p = let q = group-kept t.group Execs.with_reset (with_note _ (λ x. refl) (λ x. refl)) w p in branch _ _ _ (k.enter t.id _ refl _ q) (trap_new-kept t _ q)

  pub exec-kept : (t : Thread) → X t.group t.id → (w : Work) → P w → P (Execs.exec t w)
  exec-kept t x w p = branch _ _ _ (new_program-kept t.id t w p) (only-kept t.id _ tame_execing _ (k.break_others t.group t.id x w p))

  pub finish-kept : (t : Thread) (w : Work) → P w → P (Execs.finish t w)
  finish-kept t w p = at-kept t.group (Execs.new_program t.id) (new_program-kept t.id) _ (only-kept t.group _ tame_execed _ (k.take_place t.id w p))

  pub consume-kept : (t : Thread) (w : Work) → P w → P (Waits.consume t w)
  consume-kept t w p =
      branch (Lives.is_dead t.life) _ _ (branch (Threads.is_leader t) _ _ (pass_on-kept t t.report w p) (remove_thread-kept t w p)) (only-kept t.id _ tame_told_nothing w p)

  -- Steps

  pub set_action-kept : (s : ℕ) (how : Action) (t : Thread) (w : Work) → P w → P (Sends.set_action s how t w)
  set_action-kept s how t w p = let q = group-kept t.group (Sends.with_action s how) (with_note _ (λ x. refl) (λ x. refl)) w p in branch _ _ _ (k.end_waiting Flushed refl _ _ q) q

  pub on_instance-kept : (o : Option Instance) (t : Thread) (w : Work) → P w → P (Moves.on_instance o (Takes.take t) w)
  on_instance-kept None t w p = p
  on_instance-kept (Some i) t w p = take-kept t i w p

  pub take_numbered-kept : (n : ℕ) (t : Thread) (w : Work) → P w → P (Takes.take_numbered n t w)
  take_numbered-kept n t w p = on_instance-kept (Takes.with_number n (Takes.choices w.table t)) t w p

  pub consume_note-kept : (o : Option Group) (w : Work) → P w → P (StarterWaits.consume_note o w)
  consume_note-kept None w p = p
  consume_note-kept (Some g) w p = group-kept g.tgid StarterWaits.no_note (without_note _ (λ x. refl) (λ x. refl)) w p

  pub starter_takes-kept : (o : Option Thread) (g : Option Group) (w : Work) → P w → P (StarterWaits.starter_takes o g w)
  starter_takes-kept None g w p = consume_note-kept g w p
  starter_takes-kept (Some t) g w p = remove_thread-kept t w p

  pub exit_group-kept : (code : ℕ) (t : Thread) (w : Work) → P w → P (Ends.exit_group code t w)
  exit_group-kept code t w p = k.begin_death t.group _ false w p

  pub does-kept : (a : ℕ) (e : Event) (c : Choice) (w : Work) → MayRestart R a e → MayExec X w.table e → MayClone w.table e c → P w → P (Steps.work_of_event a e c w)
  does-kept a (event.Kill g s) c w r x m p = send-kept s _ (target.Group g) w p
  does-kept a (event.Tgkill g id s) c w r x m p = send-kept s _ (target.Thread id) w p
  does-kept a (event.Sigqueue g s v) c w r x m p = send-kept s _ (target.Group g) w p
  does-kept a (event.Mask id set) c w r x m p = only-kept id _ (tame_masked set) w p
  does-kept a (event.SetAction id s how) c w r x m p = at-kept id _ (set_action-kept s how) w p
  does-kept a (event.Pause id) c w r x m p = only-kept id _ (tame_paused true) w p
  does-kept a (event.Take id) c w r x m p = at-kept id _ (take_numbered-kept _) w p
  does-kept a (event.TakeAny g) c w r x m p = at-kept _ _ (take_numbered-kept _) w p
  does-kept a (event.Halt id) c w r x m p = at-kept id _ halt-kept w p
  does-kept a (event.Trap id) c w r x m p = at-kept id _ trap-kept w p
  does-kept a (event.Die id) c w r x m p = at-kept id _ (λ t. die-kept t t.life) w p
  does-kept a (event.CloneThread id) c w r x m p = at_found id (λ t. Clones.clone t (Steps.number c.new_id)) w (λ t e h. clone-kept t (Steps.number c.new_id) w m p) p
  does-kept a (event.Exec id) c w r x m p = at_found id Execs.exec w (λ t e h. exec-kept t (x t h) w p) p
  does-kept a (event.Finish id) c w r x m p = at-kept id _ finish-kept w p
  does-kept a (event.Exit id code) c w r x m p = at-kept id (λ t. Ends.exit t code) (λ t. exit-kept t code) w p
  does-kept a (event.ExitGroup id code) c w r x m p = at-kept id _ (exit_group-kept code) w p
  does-kept a (event.Attach id) c w r x m p = at-kept id _ (attach-kept a) w p
  does-kept a (event.Seize id o) c w r x m p = at-kept id _ (seize-kept a o) w p
  does-kept a (event.Interrupt id) c w r x m p = only-kept id _ tame_interrupted w p
  does-kept a (event.Cont id s) c w r x m p = at_found id (Restarts.restart s) w (λ t e h. restart-kept s t (r (leave t) (found_id w.table.threads id t h)) w e p) p
  does-kept a (event.Listen id) c w r x m p = at_found id Restarts.listen w (λ t e h. k.listen t (r (leave t) (found_id w.table.threads id t h)) w e p) p
  does-kept a (event.Detach id s) c w r x m p = at_found id (Restarts.detach s) w (λ t e h. detach-kept s t (r (leave t) (found_id w.table.threads id t h)) w e p) p
  does-kept a (event.SetOptions id o) c w r x m p = only-kept id _ (tame_set_options o) w p
  does-kept a (event.EventMessage id) c w r x m p = p
  does-kept a (event.SignalInfo id) c w r x m p = p
  does-kept a event.TracerExit c w r x m p = tracer_exit-kept a r w p
  does-kept a (event.Wait which) c w r x m p = on_thread-kept (Waits.ready_thread w.table a which (Steps.number c.report)) Waits.consume consume-kept w p
  does-kept a (event.StarterWait which flags) c w r x m p = starter_takes-kept _ _ w p

  -- whatever an entry does keeps what the moves keep
  pub entry-kept : (T : Table) (e : Entry) → MayRestart R e.actor e.event → MayExec X T e.event → MayClone T e.event e.choice → P (Moves.begin T) → P (Steps.work_of T e)
  entry-kept T e r x m p = settle-kept _ (does-kept e.actor e.event e.choice (Moves.begin T) r x m p)

-- where nothing is asked of restarts and execs
abbrev pub any : {A : Type 0} → A → Type 0
any a = Unit {0}

abbrev pub any_of : ℕ → ℕ → Type 0
any_of g id = Unit {0}

restarts_any : (a : ℕ) (e : Event) → MayRestart any a e
restarts_any a (event.Cont id s) = λ l h. tt
restarts_any a (event.Listen id) = λ l h. tt
restarts_any a (event.Detach id s) = λ l h. tt
restarts_any a event.TracerExit = λ l h. tt
restarts_any a _ = tt

execs_any : (T : Table) (e : Event) → MayExec any_of T e
execs_any T (event.Exec id) = λ t h. tt
execs_any T _ = tt

pub always-kept : (P : Work → Type 0) → Kept any any_of P → (T : Table) (e : Entry) → Steps.Admits T e.actor e.event e.choice → P (Moves.begin T) → P (Steps.work_of T e)
always-kept P k T e h p = entry-kept any any_of P k T e (restarts_any e.actor e.event) (execs_any T e.event) (admits_new T e.actor e.event e.choice h) p
