-- After a KILL only dying threads are left.
use Rattle.std.proofs.Common.{◌≡◌, ℕ, List, [], ◌∷◌, ◌++◌, true, false, Some, None, Option, refl, sym, ◌∙◌, map, Bool, not, ◌&&◌, ◌==◌, ◌⊎◌, inl, inr, if◌then◌else◌, true≢false, append-nil, append_assoc, subst, unwrap_or}
use Rattle.std.proofs.lemmas.Bool.{eqb-false, and_parts}
use Rattle.tr_pending.specs.declared.instance.Instance.{Instance}
use Rattle.tr_tracee.specs.declared.life.Life.{Life}
use Rattle.tr_tracee.specs.declared.life.Life.TheVariants as life
use Rattle.tr_tracee.specs.declared.life.End.{End}
use Rattle.tr_tracee.specs.declared.life.End.TheVariants as ending
use Rattle.tr_tracee.specs.declared.life.Stop.{Stop}
use Rattle.tr_tracee.specs.declared.life.Stop.TheVariants as stop
use Rattle.tr_tracee.specs.declared.thread.Thread.{Thread}
use Rattle.tr_model.specs.Entries.{Entry}
use Rattle.tr_model.specs.declared.replies.Reply.{Reply}
use Rattle.tr_model.proofs.Every.{each_map, each-append, each_filter, each_found, each_changed, each_dropped, is_in-append}
use Rattle.tr_model.proofs.Calm.{Calm, calm_throughout, calm_broken, calm_broken_by_exec, calm_restarted, calm_listening}
use Rattle.tr_model.proofs.Kept.{Kept, any, any_of, always-kept, itself}
use Rattle.tr_model.proofs.Measures.{free_may}
use Rattle.tr_model.specs.Journals.{Each, IsIn}
use Rattle.tr_model.specs.Laws.{OnlyDying}
use Rattle.tr_model.specs.Moves.{Work}
use Rattle.tr_model.specs.Tables.{Table}
use Rattle.tr_tracee.specs.Lives.{held}
use Rattle.tr_model.specs.Deaths
use Rattle.tr_model.specs.Journals
use Rattle.tr_model.specs.Laws
use Rattle.tr_tracee.specs.Lives
use Rattle.tr_model.specs.Moves
use Rattle.tr_model.specs.Steps
use Rattle.tr_model.specs.Tables
use Rattle.tr_tracee.specs.Threads
use Rattle.tr_tracee.specs.Ends as TraceeEnds
use Rattle.tr_tracee.specs.Stops as TraceeStops

-- told, where it is of the group
abbrev Told : ℕ → Thread → Type 0
Told g t = t.group ≡ g → Lives.is_told t.life ≡ true

-- the groups of earlier KILLs, and of those of this entry
record Dying (before : List ℕ) (w : Work) : Type 0 where
  told : (g : ℕ) → IsIn g (before ++ w.killed) → Each (Told g) w.table.threads

calm_told : (g : ℕ) (t u : Thread) → Calm t u → Told g t → Told g u
calm_told g t u c h e = c.told (h (sym c.group ∙ e))

may_enter_told : (l : Life) → TraceeStops.may_enter l ≡ true → Lives.is_told l ≡ true → ⊥
may_enter_told (life.Leaving s true) e h = true≢false (sym e)
may_enter_told (life.Leaving s false) e h = true≢false (sym h)
may_enter_told (life.Dead s) e h = true≢false (sym e)
may_enter_told life.Free e h = true≢false (sym h)
may_enter_told life.Stopped e h = true≢false (sym h)
may_enter_told life.Listening e h = true≢false (sym h)
may_enter_told (life.InStop s) e h = true≢false (sym h)
may_enter_told life.Execing e h = true≢false (sym h)

free_told : (l : Life) → Lives.is_free l ≡ true → Lives.is_told l ≡ true → ⊥
free_told l f h = may_enter_told l (free_may l f) h

execing_told : (l : Life) → Lives.is_execing l ≡ true → Lives.is_told l ≡ true → ⊥
execing_told life.Execing e h = true≢false (sym h)
execing_told life.Free e h = true≢false (sym h)
execing_told life.Stopped e h = true≢false (sym h)
execing_told life.Listening e h = true≢false (sym h)
execing_told (life.InStop s) e h = true≢false (sym h)
execing_told (life.Leaving s told) e h = true≢false (sym e)
execing_told (life.Dead s) e h = true≢false (sym e)

-- what a KILL makes of a thread of its group
killed_told : (g : ℕ) (s : End) (t : Thread) → Told g (Threads.at_group g (TraceeEnds.begun_to_leave true s) t)
killed_told g s t = go (t.group == g) refl
  where
    inner : (d : Bool) → Lives.is_dead t.life ≡ d → Lives.is_told (if d then t else TraceeEnds.leaving_with true s t).life ≡ true
    inner true d = dead_is_told t.life d
      where
        dead_is_told : (l : Life) → Lives.is_dead l ≡ true → Lives.is_told l ≡ true
        dead_is_told (life.Dead s) h = refl
        dead_is_told life.Free h = absurd (true≢false (sym h))
        dead_is_told life.Stopped h = absurd (true≢false (sym h))
        dead_is_told life.Listening h = absurd (true≢false (sym h))
        dead_is_told (life.InStop s) h = absurd (true≢false (sym h))
        dead_is_told (life.Leaving s told) h = absurd (true≢false (sym h))
        dead_is_told life.Execing h = absurd (true≢false (sym h))
    inner false d = refl

    go : (b : Bool) → (t.group == g) ≡ b → Told g (if b then TraceeEnds.begun_to_leave true s t else t)
    go true h e = inner (Lives.is_dead t.life) refl
    go false h e = absurd (eqb-false t.group g h e)

module _ (before : List ℕ) where
  alter-dying : (f : Thread → Thread) → ((t : Thread) → Calm t (f t)) → (ts : List Thread) (g : ℕ) → Each (Told g) ts → Each (Told g) (map f ts)
  alter-dying f c ts g h = each_map (Told g) (Told g) f (λ t. calm_told g t (f t) (c t)) ts h

  changed-dying : (f : Thread → Thread) (t : Thread) → Calm t (f t) → (ts : List Thread) → Tables.thread_in ts t.id ≡ Some t → (g : ℕ) → Each (Told g) ts → Each (Told g) (Moves.changed t.id f ts)
  changed-dying f t c ts e g h = each_changed (Told g) t.id f t (calm_told g t (f t) c (each_found (Told g) t.id t ts e h)) ts e h

  entering-dying : (t : Thread) (s : Stop) (w : Work) → Tables.thread_of w.table t.id ≡ Some t → Dying before w → Dying before (Moves.enter_if_allowed s t w)
  entering-dying t s w e d = go (TraceeStops.may_enter t.life) refl
    where
      go : (m : Bool) → TraceeStops.may_enter t.life ≡ m → Dying before (if m then Moves.entered_now s t w else w)
      go true m = record { told = λ g i. each_changed (Told g) t.id _ t (λ h. absurd (may_enter_told t.life m (each_found (Told g) t.id t w.table.threads e (d.told g i) h))) w.table.threads e (d.told g i) }
      go false m = d

  at-dying : (id : ℕ) (move : Thread → Work → Work) (w : Work) → ((t : Thread) → Tables.thread_of w.table t.id ≡ Some t → Dying before (move t w)) → Dying before w → Dying before (Moves.at id move w)
  at-dying id move w h d = go (Tables.thread_of w.table id) refl
    where
      go : (o : Option Thread) → Tables.thread_of w.table id ≡ o → Dying before (Moves.on_thread o move w)
      go None e = d
      go (Some t) e = h t (itself w.table.threads id t e)

  holding-dying : (t : Thread) (o : Option Instance) (w : Work) → Tables.thread_of w.table t.id ≡ Some t → Dying before w → Dying before (Moves.on_instance o (Moves.holding t) w)
  holding-dying t None w e d = d
  holding-dying t (Some i) w e d = go (Lives.is_free t.life)
    where
      go : (f : Bool) → Dying before (if f then Moves.enter_if_allowed (stop.Signal i false) t (Moves.pulled i w) else w)
      go true = entering-dying t (stop.Signal i false) (Moves.pulled i w) e (record { told = d.told })
      go false = d

  report-dying : (s : End) (t : Thread) (w : Work) → Tables.thread_of w.table t.id ≡ Some t → Dying before w → Dying before (Moves.report_dead s t w)
  report-dying s t w e d = go (Lives.is_dead t.life)
    where
      go : (b : Bool) → Dying before (if b then Moves.raise t (Lives.status_of_end s) w else w)
      go true = record { told = λ g i. each_changed (Told g) t.id _ t (each_found (Told g) t.id t w.table.threads e (d.told g i)) w.table.threads e (d.told g i) }
      go false = d

  spawn-dying : (id : ℕ) (mark : Bool) (t : Thread) (w : Work) → Tables.thread_of w.table t.id ≡ Some t → Dying before w → Dying before (Moves.spawned id mark t w)
  spawn-dying id mark t w e d = go (Lives.is_free t.life) refl
    where
      go : (f : Bool) → Lives.is_free t.life ≡ f → Dying before (if f then Moves.added (TraceeEnds.child id mark t) w else w)
      go true f = record { told = λ g i. each-append (Told g) w.table.threads (TraceeEnds.child id mark t ∷ []) (d.told g i) ((λ h. absurd (free_told t.life f (each_found (Told g) t.id t w.table.threads e (d.told g i) h))), tt) }
      go false f = d

  place-dying : (t : Thread) (w : Work) → Tables.thread_of w.table t.id ≡ Some t → Dying before w → Dying before (Moves.taking_place t w)
  place-dying t w e d = go (Lives.is_execing t.life && not (t.id == t.group)) refl
    where
      one_place : (g : ℕ) → IsIn g (before ++ w.killed) → Lives.is_execing t.life ≡ true → (x : Thread) → Told g x → Told g (Moves.in_leaders_row t x)
      one_place g i x' x h = at_place (x.id == t.group && Lives.is_dead x.life)
        where
          at_place : (b : Bool) → Told g (if b then Moves.renamed t.group t else x)
          at_place true = λ q. absurd (execing_told t.life x' (each_found (Told g) t.id t w.table.threads e (d.told g i) q))
          at_place false = h

      go : (p : Bool) → (Lives.is_execing t.life && not (t.id == t.group)) ≡ p → Dying before (if p then Moves.with_leaders_row t w else w)
      go true p = record { told = λ g i. each_map (Told g) (Told g) (Moves.in_leaders_row t) (one_place g i (and_parts _ _ p).0) (Moves.dropped t.id w.table.threads) (each_dropped (Told g) t.id w.table.threads (d.told g i)) }
      go false p = d

  broken-dying : (g : ℕ) (s : End) (kill : Bool) (w : Work) → Dying before w → Dying before (Deaths.begin_death g s kill w)
  broken-dying g s kill w d =
      let now = unwrap_or (Tables.group_end w.table g) s in
      record { told = λ h i. alter-dying (Threads.at_group g (TraceeEnds.begun_to_leave kill now)) (calm_throughout g (TraceeEnds.begun_to_leave kill now) (calm_broken kill now)) w.table.threads h (d.told h i) }

  kill-dying : (g : ℕ) (w : Work) → Dying before w → Dying before (Deaths.kill_group g w)
  kill-dying g w d = record { told = λ h i. go h (is_in-append h (before ++ w.killed) (g ∷ []) (subst (IsIn h) (sym (append_assoc before w.killed (g ∷ []))) i)) }
    where
      now : End
      now = unwrap_or (Tables.group_end w.table g) (ending.Killed 9)

      go : (h : ℕ) → IsIn h (before ++ w.killed) ⊎ IsIn h (g ∷ []) → Each (Told h) (Deaths.kill_group g w).table.threads
      go h (inl i) = alter-dying (Threads.at_group g (TraceeEnds.begun_to_leave true _)) (calm_throughout g (TraceeEnds.begun_to_leave true _) (calm_broken true _)) w.table.threads h (d.told h i)
      go h (inr (inl e)) = subst (λ x. Each (Told x) (Deaths.kill_group g w).table.threads) e (all_told w.table.threads)
        where
          all_told : (ts : List Thread) → Each (Told g) (map (Threads.at_group g (TraceeEnds.begun_to_leave true (unwrap_or (Tables.group_end w.table g) (ending.Killed 9)))) ts)
          all_told [] = tt
          all_told (t ∷ ts) = (killed_told g _ t, all_told ts)
      go h (inr (inr n)) = absurd n

  moves-dying : Kept any any_of (Dying before)
  moves-dying = record {
    alter = λ f h w d. record { told = λ g i. alter-dying f (λ t. (h t).calm) w.table.threads g (d.told g i) };
    resume = λ fate live t r w e d. record { told = λ g i. changed-dying TraceeStops.restarted t (calm_restarted t) w.table.threads e g (d.told g i) };
    listen = λ t r w e d. record { told = λ g i. changed-dying TraceeStops.listening t (calm_listening t) w.table.threads e g (d.told g i) };
    break_others = λ g id x w d. record { told = λ h i. alter-dying (Threads.at_group g (TraceeEnds.begun_to_leave_by_exec id (ending.Exited 0))) (calm_throughout g _ (calm_broken_by_exec id (ending.Exited 0))) w.table.threads h (d.told h i) };
    begin_death = broken-dying;
    kill_group = kill-dying;
    enter = λ id s h w d. at-dying id (Moves.enter_if_allowed s) w (λ t e. entering-dying t s w e d) d;
    hold = λ id n w d. at-dying id (λ t. Moves.on_instance (Moves.instance_in w.table.waiting n) (Moves.holding t)) w (λ t e. holding-dying t _ w e d) d;
    report_death = λ id s w d. at-dying id (Moves.report_dead s) w (λ t e. report-dying s t w e d) d;
    spawn = λ parent id mark w n d. at-dying parent (Moves.spawned id mark) w (λ t e. spawn-dying id mark t w e d) d;
    remove_dead = λ p w d. record { told = λ g i. each_filter (Told g) _ w.table.threads (d.told g i) };
    take_place = λ id w d. at-dying id Moves.taking_place w (λ t e. place-dying t w e d) d;
    regroup = λ f h w d. record { told = d.told };
    note = λ g s w d. record { told = d.told };
    drop_empty = λ g w d. record { told = d.told };
    enqueue = λ s i q w d. record { told = d.told };
    accept_as = λ fate live w d. record { told = d.told };
    end_waiting = λ fate live p w d. record { told = d.told };
  }

replay_dying : (T U : Table) (before : List ℕ) (es : List Entry) (rs : List Reply) → ((g : ℕ) → IsIn g before → OnlyDying g T) → Journals.Replay T es rs U → (g : ℕ) → IsIn g (before ++ Journals.killed_by T es) → OnlyDying g U
replay_dying T U before [] [] s r g i = subst (λ V. OnlyDying g V) (sym r) (s g (rw append-nil at i))
replay_dying T U before [] (x ∷ rs) s r g i = absurd r
replay_dying T U before (e ∷ es) [] s r g i = absurd r
replay_dying T U before (e ∷ es) (x ∷ rs) s r g i =
    let start : Dying before (Moves.begin T) = record { told = λ h j. s h (rw append-nil at j) } in
    let d = always-kept (Dying before) (moves-dying before) T e r.1.choice start in
    let made : Journals.Replay (Steps.work_of T e).table es rs U = subst (λ M. Journals.Replay M es rs U) r.1.table r.2 in
    replay_dying (Steps.work_of T e).table U (before ++ (Steps.work_of T e).killed) es rs d.told made g (rw append_assoc i)

pub only_dying : Laws.AfterAKillOnlyDying
only_dying T U es rs r g i = replay_dying T U [] es rs (λ h j. absurd j) r g i
