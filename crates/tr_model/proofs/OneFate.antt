-- Each accepted number waits, is held, or was ended: once.
use Rattle.std.proofs.Common.{◌≡◌, ℕ, zero, suc, ◌+◌, ◌<◌, ◌≤◌, List, [], ◌∷◌, ◌++◌, true, false, Some, None, Option, refl, sym, ap, ◌∙◌, map, flat_map, filter, Bool, not, ◌&&◌, ◌==◌, ◌⊎◌, inl, inr, if◌then◌else◌, arith, cond, true≢false, add-one, append-nil, append_assoc, subst, ⊎_elim, unwrap_or}
use Rattle.std.proofs.lemmas.Bool.{cases_lt, eqb-true, and_parts, cases_eq, ne_eqb, eq-eqb}
use Rattle.std.proofs.lemmas.Option.{none-some, same_Some}
use Rattle.tr_pending.specs.declared.instance.Instance.{Instance}
use Rattle.tr_tracee.specs.declared.life.Life.TheVariants as life
use Rattle.tr_tracee.specs.declared.life.End.{End}
use Rattle.tr_tracee.specs.declared.life.End.TheVariants as ending
use Rattle.tr_tracee.specs.declared.life.Stop.{Stop}
use Rattle.tr_tracee.specs.declared.life.Stop.TheVariants as stop
use Rattle.tr_tracee.specs.declared.thread.Thread.{Thread}
use Rattle.tr_model.specs.Entries.{Entry}
use Rattle.tr_model.specs.declared.fates.Fate.{Fate}
use Rattle.tr_model.specs.declared.fates.Fate.TheVariants.{Flushed}
use Rattle.tr_model.specs.declared.replies.Reply.{Reply}
use Rattle.tr_model.proofs.Calm.{Calm, Tame, calm_throughout, calm_broken, calm_broken_by_exec, calm_restarted, calm_listening}
use Rattle.tr_model.proofs.Kept.{Kept, any, any_of, always-kept, itself}
use Rattle.tr_model.proofs.Measures.{total, total-append, total_changed, total_dropped, total_same, total_removed, may_enter_holds, free_may, dead_holds, execing_holds}
use Rattle.tr_model.specs.declared.rows.Waiting.{Waiting}
use Rattle.tr_model.specs.declared.fates.Ending.{Ending}
use Rattle.tr_model.specs.Moves.{Work}
use Rattle.tr_model.specs.Tables.{Table}
use Rattle.tr_tracee.specs.Lives.{held}
use Rattle.tr_model.specs.Deaths
use Rattle.tr_model.specs.Journals
use Rattle.tr_model.specs.Laws
use Rattle.tr_tracee.specs.Lives
use Rattle.tr_model.specs.Moves
use Rattle.tr_model.specs.Steps
use Rattle.tr_model.specs.Tables
use Rattle.tr_tracee.specs.Threads
use Rattle.tr_tracee.specs.Ends as TraceeEnds
use Rattle.tr_tracee.specs.Stops as TraceeStops
use Rattle.tr_model.proofs.Among.{occurs-append}

-- How often a number waits, is held, was ended; and once, if it was accepted

abbrev pub one : Bool → ℕ
one true = 1
one false = 0

abbrev pub is_number : ℕ → Option Instance → ℕ
is_number n None = 0
is_number n (Some i) = one (i.n == n)

abbrev pub holds : ℕ → Thread → ℕ
holds n t = is_number n (held t.life)

abbrev pub waits : ℕ → List Waiting → ℕ
waits n [] = 0
waits n (q ∷ qs) = one (q.instance.n == n) + waits n qs

abbrev pub gone : ℕ → List Ending → ℕ
gone n [] = 0
gone n (e ∷ es) = one (e.number == n) + gone n es

abbrev pub born : ℕ → ℕ → ℕ
born n zero = 0
born n (suc a) = one (suc a == n) + born n a

-- before is what earlier entries ended
pub record Balanced (before : List Ending) (w : Work) : Type 0 where
  pub at : (n : ℕ) → waits n w.table.waiting + total (holds n) w.table.threads + gone n before + gone n w.ended ≡ born n w.table.accepted

gone-append : (n : ℕ) (xs ys : List Ending) → gone n (xs ++ ys) ≡ gone n xs + gone n ys
gone-append n [] ys = omega arith
gone-append n (x ∷ xs) ys = omega (arith, gone-append n xs ys)

waits-append : (n : ℕ) (xs ys : List Waiting) → waits n (xs ++ ys) ≡ waits n xs + waits n ys
waits-append n [] ys = omega arith
waits-append n (x ∷ xs) ys = omega (arith, waits-append n xs ys)

-- a change of records

endings-none : (n : ℕ) (fate : Fate) (o : Option Instance) → is_number n None + gone n (Moves.ended_hold fate o None) ≡ is_number n o
endings-none n fate None = refl
endings-none n fate (Some i) = omega arith

endings-same : (n : ℕ) (fate : Fate) (o : Option Instance) → is_number n o + gone n (Moves.ended_hold fate o o) ≡ is_number n o
endings-same n fate None = refl
endings-same n fate (Some i) = omega arith

one_change : (n : ℕ) (fate : Fate) (f : Thread → Thread) (t : Thread) → Calm t (f t) → holds n (f t) + gone n (Moves.ended_by_change fate f t) ≡ holds n t
one_change n fate f t c = go c.holds
  where
    go : (held (f t).life ≡ None) ⊎ (held (f t).life ≡ held t.life) → holds n (f t) + gone n (Moves.ended_by_change fate f t) ≡ holds n t
    go (inl e) = rw e (endings-none n fate (held t.life))
    go (inr e) = rw e (endings-same n fate (held t.life))

changes : (n : ℕ) (fate : Fate) (f : Thread → Thread) → ((t : Thread) → Calm t (f t)) → (ts : List Thread) → total (holds n) (map f ts) + gone n (flat_map (Moves.ended_by_change fate f) ts) ≡ total (holds n) ts
changes n fate f h [] = refl
changes n fate f h (t ∷ ts) = omega (arith, one_change n fate f t (h t), changes n fate f h ts, gone-append n (Moves.ended_by_change fate f t) (flat_map (Moves.ended_by_change fate f) ts))

zero_of : (n : ℕ) (o : Option Instance) → o ≡ None → is_number n o ≡ 0
zero_of n o e = ap (is_number n) e

in_places : (n : ℕ) (t : Thread) → held t.life ≡ None → (ts : List Thread) → total (holds n) (map (Moves.in_leaders_row t) ts) ≡ total (holds n) ts
in_places n t h [] = refl
in_places n t h (x ∷ ts) = go (x.id == t.group && Lives.is_dead x.life) refl (in_places n t h ts)
  where
    go : (b : Bool) → (x.id == t.group && Lives.is_dead x.life) ≡ b → total (holds n) (map (Moves.in_leaders_row t) ts) ≡ total (holds n) ts
        → is_number n (held (if b then Moves.renamed t.group t else x).life) + total (holds n) (map (Moves.in_leaders_row t) ts) ≡ is_number n (held x.life) + total (holds n) ts
    go true e ih = omega (arith, ih, zero_of n _ (dead_holds x.life (and_parts _ _ e).1), zero_of n _ h)
    go false e ih = omega (arith, ih)

retargeted_waits : (n from to : ℕ) (qs : List Waiting) → waits n (map (Moves.retargeted from to) qs) ≡ waits n qs
retargeted_waits n from to [] = refl
retargeted_waits n from to (q ∷ qs) = omega (arith, retargeted_waits n from to qs)

ended_waits : (n : ℕ) (fate : Fate) (p : Waiting → Bool) (qs : List Waiting) → waits n (filter (λ q. not (p q)) qs) + gone n (map (Moves.ending_of fate) (filter p qs)) ≡ waits n qs
ended_waits n fate p [] = refl
ended_waits n fate p (q ∷ qs) = go (p q) (ended_waits n fate p qs)
  where
    go : (b : Bool) → waits n (filter (λ q. not (p q)) qs) + gone n (map (Moves.ending_of fate) (filter p qs)) ≡ waits n qs
        → waits n (cond (not b) (q ∷ filter (λ q. not (p q)) qs) (filter (λ q. not (p q)) qs)) + gone n (map (Moves.ending_of fate) (cond b (q ∷ filter p qs) (filter p qs))) ≡ one (q.instance.n == n) + waits n qs
    go true ih = omega (arith, ih)
    go false ih = omega (arith, ih)

pulled : (n m : ℕ) (i : Instance) (qs : List Waiting) → Moves.instance_in qs m ≡ Some i → waits n (Moves.without_instance m qs) + one (i.n == n) ≡ waits n qs
pulled n m i [] e = absurd (none-some i e)
pulled n m i (q ∷ qs) e = go (q.instance.n == m) e (pulled n m i qs)
  where
    go : (b : Bool) → (if b then Some q.instance else Moves.instance_in qs m) ≡ Some i
        → (Moves.instance_in qs m ≡ Some i → waits n (Moves.without_instance m qs) + one (i.n == n) ≡ waits n qs)
        → waits n (if b then qs else q ∷ Moves.without_instance m qs) + one (i.n == n) ≡ one (q.instance.n == n) + waits n qs
    go true e ih = omega (arith, ap (λ (y : Instance). one (y.n == n)) (same_Some q.instance i e))
    go false e ih = omega (arith, ih e)

pub number_found : (m : ℕ) (i : Instance) (qs : List Waiting) → Moves.instance_in qs m ≡ Some i → i.n ≡ m
number_found m i [] e = absurd (none-some i e)
number_found m i (q ∷ qs) e = go (q.instance.n == m) refl e (number_found m i qs)
  where
    go : (b : Bool) → (q.instance.n == m) ≡ b → (if b then Some q.instance else Moves.instance_in qs m) ≡ Some i → (Moves.instance_in qs m ≡ Some i → i.n ≡ m) → i.n ≡ m
    go true h e ih = ap (λ (y : Instance). y.n) (sym (same_Some q.instance i e)) ∙ eqb-true q.instance.n m h
    go false h e ih = ih e

born_more : (n a : ℕ) → born n (a + 1) ≡ one (a + 1 == n) + born n a
born_more n a = rw add-one refl

-- The moves keep the balance

module _ (before : List Ending) where
  alter-balanced : (f : Thread → Thread) → ((t : Thread) → Tame t (f t)) → (w : Work) → Balanced before w → Balanced before (Moves.alter f w)
  alter-balanced f h w b = record { at = λ n. omega (arith, b.at n, total_same (holds n) f (λ t. ap (is_number n) (h t).holds) w.table.threads) }

  become-balanced : (fate : Fate) (f : Thread → Thread) → ((t : Thread) → Calm t (f t)) → (w : Work) → Balanced before w → Balanced before (Moves.become fate f w)
  become-balanced fate f h w b = record { at = λ n. omega (arith, b.at n, changes n fate f h w.table.threads, gone-append n w.ended (flat_map (Moves.ended_by_change fate f) w.table.threads)) }

  changing-balanced : (fate : Fate) (f : Thread → Thread) (t : Thread) → Calm t (f t) → (w : Work) → Tables.thread_of w.table t.id ≡ Some t → Balanced before w → Balanced before (Moves.change_ending fate f t w)
  changing-balanced fate f t c w e b = record { at = λ n. omega (arith, b.at n, total_changed (holds n) t.id f t w.table.threads e, one_change n fate f t c, gone-append n w.ended (Moves.ended_by_change fate f t)) }

  begin_death-balanced : (g : ℕ) (s : End) (kill : Bool) (w : Work) → Balanced before w → Balanced before (Deaths.begin_death g s kill w)
  begin_death-balanced g s kill w b =
      let now = unwrap_or (Tables.group_end w.table g) s in
      record { at = (become-balanced Flushed (Threads.at_group g (TraceeEnds.begun_to_leave kill now)) (calm_throughout g (TraceeEnds.begun_to_leave kill now) (calm_broken kill now)) (Moves.regroup (Moves.only_group g (Deaths.dying_with s)) w) (record { at = b.at })).at }

  same_thread : (id : ℕ) (t : Thread) (w : Work) → Tables.thread_of w.table id ≡ Some t → Tables.thread_in w.table.threads t.id ≡ Some t
  same_thread id t w e = itself w.table.threads id t e

  entering-balanced : (id : ℕ) (t : Thread) (s : Stop) → held (life.InStop s) ≡ None → (w : Work) → Tables.thread_of w.table id ≡ Some t → Balanced before w → Balanced before (Moves.enter_if_allowed s t w)
  entering-balanced id t s h w e b = go (TraceeStops.may_enter t.life) refl
    where
      go : (m : Bool) → TraceeStops.may_enter t.life ≡ m → Balanced before (if m then Moves.entered_now s t w else w)
      go true m =
          let changed : (n : ℕ) → total (holds n) (Moves.entered_now s t w).table.threads + is_number n (held t.life) ≡ total (holds n) w.table.threads + is_number n (held (life.InStop s)) = λ n. total_changed (holds n) t.id _ t w.table.threads (same_thread id t w e) in
          record { at = λ n. omega (arith, b.at n, changed n, zero_of n _ h, zero_of n _ (may_enter_holds t.life m)) }
      go false m = b

  enter-balanced : (id : ℕ) (s : Stop) → held (life.InStop s) ≡ None → (w : Work) → Balanced before w → Balanced before (Moves.enter id s w)
  enter-balanced id s h w b = go (Tables.thread_of w.table id) refl
    where
      go : (o : Option Thread) → Tables.thread_of w.table id ≡ o → Balanced before (Moves.on_thread o (Moves.enter_if_allowed s) w)
      go None e = b
      go (Some t) e = entering-balanced id t s h w e b

  holding-balanced : (id m : ℕ) (t : Thread) (i : Instance) (w : Work) → Tables.thread_of w.table id ≡ Some t → Moves.instance_in w.table.waiting m ≡ Some i → Balanced before w → Balanced before (Moves.holding t i w)
  holding-balanced id m t i w e ei b = go (Lives.is_free t.life) refl
    where
      x : Work
      x = Moves.pulled i w

      s : Stop
      s = stop.Signal i false

      out : (n : ℕ) → waits n (Moves.pulled i w).table.waiting + one (i.n == n) ≡ waits n w.table.waiting
      out n = pulled n i.n i w.table.waiting (ap (Moves.instance_in w.table.waiting) (number_found m i w.table.waiting ei) ∙ ei)

      in_it : (n : ℕ) → total (holds n) (Moves.entered_now (stop.Signal i false) t (Moves.pulled i w)).table.threads + is_number n (held t.life) ≡ total (holds n) w.table.threads + one (i.n == n)
      in_it n = total_changed (holds n) t.id _ t w.table.threads (same_thread id t w e)

      enters : (m : Bool) → TraceeStops.may_enter t.life ≡ m → Lives.is_free t.life ≡ true → Balanced before (if m then Moves.entered_now (stop.Signal i false) t (Moves.pulled i w) else Moves.pulled i w)
      enters true m f = record { at = λ n. omega (arith, b.at n, out n, in_it n, zero_of n _ (may_enter_holds t.life m)) }
      enters false m f = absurd (true≢false (sym (free_may t.life f) ∙ m))

      go : (f : Bool) → Lives.is_free t.life ≡ f → Balanced before (if f then Moves.enter_if_allowed (stop.Signal i false) t (Moves.pulled i w) else w)
      go true f = enters (TraceeStops.may_enter t.life) refl f
      go false f = b

  hold-balanced : (id m : ℕ) (w : Work) → Balanced before w → Balanced before (Moves.hold id m w)
  hold-balanced id m w b = go (Tables.thread_of w.table id) refl
    where
      by_instance : (t : Thread) → Tables.thread_of w.table id ≡ Some t → (o : Option Instance) → Moves.instance_in w.table.waiting m ≡ o → Balanced before (Moves.on_instance o (Moves.holding t) w)
      by_instance t e None ei = b
      by_instance t e (Some i) ei = holding-balanced id m t i w e ei b

      go : (o : Option Thread) → Tables.thread_of w.table id ≡ o → Balanced before (Moves.on_thread o (λ t. Moves.on_instance (Moves.instance_in w.table.waiting m) (Moves.holding t)) w)
      go None e = b
      go (Some t) e = by_instance t e (Moves.instance_in w.table.waiting m) refl

  report_death-balanced : (id : ℕ) (s : End) (w : Work) → Balanced before w → Balanced before (Moves.report_death id s w)
  report_death-balanced id s w b = go (Tables.thread_of w.table id) refl
    where
      raises : (t : Thread) → Tables.thread_of w.table id ≡ Some t → (d : Bool) → Balanced before (if d then Moves.raise t (Lives.status_of_end s) w else w)
      raises t e true = record { at = λ n. omega (arith, b.at n, total_changed (holds n) t.id (TraceeStops.reported (w.table.raised + 1) (Lives.status_of_end s)) t w.table.threads (same_thread id t w e)) }
      raises t e false = b

      go : (o : Option Thread) → Tables.thread_of w.table id ≡ o → Balanced before (Moves.on_thread o (Moves.report_dead s) w)
      go None e = b
      go (Some t) e = raises t e (Lives.is_dead t.life)

  spawn-balanced : (parent id : ℕ) (mark : Bool) (w : Work) → Tables.thread_of w.table id ≡ None → Balanced before w → Balanced before (Moves.spawn parent id mark w)
  spawn-balanced parent id mark w n b = go (Tables.thread_of w.table parent)
    where
      adds : (t : Thread) (f : Bool) → Balanced before (if f then Moves.added (TraceeEnds.child id mark t) w else w)
      adds t true = record { at = λ n. omega (arith, b.at n, total-append (holds n) w.table.threads (TraceeEnds.child id mark t ∷ [])) }
      adds t false = b

      go : (o : Option Thread) → Balanced before (Moves.on_thread o (Moves.spawned id mark) w)
      go None = b
      go (Some t) = adds t (Lives.is_free t.life)

  take_place-balanced : (id : ℕ) (w : Work) → Balanced before w → Balanced before (Moves.take_place id w)
  take_place-balanced id w b = go (Tables.thread_of w.table id) refl
    where
      places : (t : Thread) → Tables.thread_of w.table id ≡ Some t → (p : Bool) → (Lives.is_execing t.life && not (t.id == t.group)) ≡ p → Balanced before (if p then Moves.with_leaders_row t w else w)
      places t e true p =
          let h = execing_holds t.life (and_parts _ _ p).0 in
          record { at = λ n. omega (arith, b.at n, in_places n t h (Moves.dropped t.id w.table.threads), total_dropped (holds n) t.id t w.table.threads (same_thread id t w e), zero_of n _ h, retargeted_waits n t.id t.group w.table.waiting) }
      places t e false p = b

      go : (o : Option Thread) → Tables.thread_of w.table id ≡ o → Balanced before (Moves.on_thread o Moves.taking_place w)
      go None e = b
      go (Some t) e = places t e (Lives.is_execing t.life && not (t.id == t.group)) refl

  pub moves-balanced : Kept any any_of (Balanced before)
  moves-balanced = record {
    alter = alter-balanced;
    resume = λ fate live t r w e b. changing-balanced fate TraceeStops.restarted t (calm_restarted t) w e b;
    listen = λ t r w e b. changing-balanced Flushed TraceeStops.listening t (calm_listening t) w e b;
    break_others = λ g id x w b. become-balanced Flushed (Threads.at_group g (TraceeEnds.begun_to_leave_by_exec id (ending.Exited 0))) (calm_throughout g (TraceeEnds.begun_to_leave_by_exec id (ending.Exited 0)) (calm_broken_by_exec id (ending.Exited 0))) w b;
    begin_death = begin_death-balanced;
    kill_group = λ g w b. begin_death-balanced g (ending.Killed 9) true (Moves.tell_killed g w) (record { at = b.at });
    enter = enter-balanced;
    hold = hold-balanced;
    report_death = report_death-balanced;
    spawn = spawn-balanced;
    remove_dead = λ p w b. record { at = λ n. omega (arith, b.at n, total_removed (holds n) (λ t h. ap (is_number n) (dead_holds t.life h)) p w.table.threads) };
    take_place = take_place-balanced;
    regroup = λ f h w b. record { at = b.at };
    note = λ g s w b. record { at = b.at };
    drop_empty = λ g w b. record { at = b.at };
    enqueue = λ s i q w b. record { at = λ n. omega (arith, b.at n, born_more n w.table.accepted, waits-append n w.table.waiting (record { instance = Moves.next_instance s i w; target = q } ∷ [])) };
    accept_as = λ fate live w b. record { at = λ n. omega (arith, b.at n, born_more n w.table.accepted, gone-append n w.ended (record { number = w.table.accepted + 1; fate = fate } ∷ [])) };
    end_waiting = λ fate live p w b. record { at = λ n. omega (arith, b.at n, ended_waits n fate p w.table.waiting, gone-append n w.ended (map (Moves.ending_of fate) (filter p w.table.waiting))) };
  }

-- Whole journals

-- a table with what was ended so far
pub record Sound (T : Table) (ended : List Ending) : Type 0 where
  pub at : (n : ℕ) → waits n T.waiting + total (holds n) T.threads + gone n ended ≡ born n T.accepted

entry_sound : (T : Table) (ended : List Ending) (e : Entry) → Steps.Admits T e.actor e.event e.choice → Sound T ended → Sound (Steps.work_of T e).table (ended ++ (Steps.work_of T e).ended)
entry_sound T ended e h s =
    let start : Balanced ended (Moves.begin T) = record { at = λ n. omega (arith, s.at n) } in
    let b = always-kept (Balanced ended) (moves-balanced ended) T e h start in
    record { at = λ n. omega (arith, b.at n, gone-append n ended (Steps.work_of T e).ended) }

pub replay_sound : (T U : Table) (ended : List Ending) (es : List Entry) (rs : List Reply) → Sound T ended → Journals.Replay T es rs U → Sound U (ended ++ Journals.ended_by T es)
replay_sound T U ended [] [] s r = rw (append-nil, r) s
replay_sound T U ended [] (x ∷ rs) s r = absurd r
replay_sound T U ended (e ∷ es) [] s r = absurd r
replay_sound T U ended (e ∷ es) (x ∷ rs) s r =
    let made : Journals.Replay (Steps.work_of T e).table es rs U = subst (λ M. Journals.Replay M es rs U) r.1.table r.2 in
    rw (← append_assoc) (replay_sound (Steps.work_of T e).table U (ended ++ (Steps.work_of T e).ended) es rs (entry_sound T ended e r.1.choice s) made)

-- in the words of the law

pub waits_is : (n : ℕ) (qs : List Waiting) → Journals.occurs n (Journals.waiting_numbers qs) ≡ waits n qs
waits_is n [] = refl
waits_is n (q ∷ qs) = go (q.instance.n == n) (waits_is n qs)
  where
    go : (b : Bool) → Journals.occurs n (Journals.waiting_numbers qs) ≡ waits n qs → (if b then 1 else 0) + Journals.occurs n (Journals.waiting_numbers qs) ≡ one b + waits n qs
    go true e = omega (arith, e)
    go false e = omega (arith, e)

gone_is : (n : ℕ) (es : List Ending) → Journals.occurs n (Journals.numbers_of es) ≡ gone n es
gone_is n [] = refl
gone_is n (x ∷ es) = go (x.number == n) (gone_is n es)
  where
    go : (b : Bool) → Journals.occurs n (Journals.numbers_of es) ≡ gone n es → (if b then 1 else 0) + Journals.occurs n (Journals.numbers_of es) ≡ one b + gone n es
    go true e = omega (arith, e)
    go false e = omega (arith, e)

held_one : (n : ℕ) (o : Option Instance) → Journals.occurs n (Journals.number_held o) ≡ is_number n o
held_one n None = refl
held_one n (Some i) = go (i.n == n)
  where
    go : (b : Bool) → (if b then 1 else 0) + 0 ≡ one b
    go true = refl
    go false = refl

pub held_is : (n : ℕ) (ts : List Thread) → Journals.occurs n (Journals.held_numbers ts) ≡ total (holds n) ts
held_is n [] = refl
held_is n (t ∷ ts) = omega (arith, occurs-append n (Journals.number_held (held t.life)) (Journals.held_numbers ts), held_one n (held t.life), held_is n ts)

occurs_is : (n : ℕ) (T : Table) (ended : List Ending) → Journals.occurs n (Journals.waiting_numbers T.waiting ++ Journals.held_numbers T.threads ++ Journals.numbers_of ended) ≡ waits n T.waiting + total (holds n) T.threads + gone n ended
occurs_is n T ended =
    omega (arith, occurs-append n (Journals.waiting_numbers T.waiting ++ Journals.held_numbers T.threads) (Journals.numbers_of ended), occurs-append n (Journals.waiting_numbers T.waiting) (Journals.held_numbers T.threads), waits_is n T.waiting, held_is n T.threads, gone_is n ended)

pub born_past : (n a : ℕ) → a < n → born n a ≡ 0
born_past n zero h = refl
born_past n (suc a) h = let e : (suc a == n) ≡ false = ne_eqb (suc a) n (λ q. omega arith) in omega (arith, ap one e, born_past n a (omega arith))

born_none : (a : ℕ) → born 0 a ≡ 0
born_none zero = refl
born_none (suc a) = let e : (suc a == 0) ≡ false = ne_eqb (suc a) 0 (λ q. omega arith) in omega (arith, ap one e, born_none a)

pub born_within : (n a : ℕ) → 1 ≤ n → n ≤ a → born n a ≡ 1
born_within n zero h l = absurd (omega arith)
born_within n (suc a) h l = go (cases_eq (suc a) n) (born_within n a h)
  where
    go : (suc a ≡ n) ⊎ (suc a ≡ n → ⊥) → (n ≤ a → born n a ≡ 1) → one (suc a == n) + born n a ≡ 1
    go (inl e) ih = omega (arith, ap one (eq-eqb (suc a) n e), born_past n a (omega arith))
    go (inr ne) ih = omega (arith, ap one (ne_eqb (suc a) n ne), ih (omega arith))

pub born_small : (n a : ℕ) → born n a ≤ 1
born_small n a = go (cases_lt a n) (cases_eq n 0)
  where
    go : (a < n) ⊎ (n ≤ a) → (n ≡ 0) ⊎ (n ≡ 0 → ⊥) → born n a ≤ 1
    go (inl h) z = omega (arith, born_past n a h)
    go (inr h) (inl z) = omega (arith, ap (λ m. born m a) z, born_none a)
    go (inr h) (inr d) = omega (arith, born_within n a (omega arith) h)

nothing_held : (t : Thread) → Journals.IsFresh t → held t.life ≡ None
nothing_held t f = ap held f.life

fresh_hold : (ts : List Thread) → Journals.Each Journals.IsFresh ts → Journals.held_numbers ts ≡ []
fresh_hold [] f = refl
fresh_hold (t ∷ ts) f = ap (λ o. Journals.number_held o ++ Journals.held_numbers ts) (nothing_held t f.0) ∙ fresh_hold ts f.1

pub start_sound : (T : Table) → Journals.IsStart T → Sound T []
start_sound T s = record { at = λ n. omega (arith, sym (waits_is n T.waiting) ∙ ap (λ qs. Journals.occurs n (Journals.waiting_numbers qs)) s.waiting, sym (held_is n T.threads) ∙ ap (Journals.occurs n) (fresh_hold T.threads s.threads), ap (born n) s.accepted) }

pub one_fate : Laws.EachSignalHasOneFate
one_fate T U es rs start r =
    let s = replay_sound T U [] es rs (start_sound T start) r in
    record {
      accepted = λ n l m. omega (arith, occurs_is n U (Journals.ended_by T es), s.at n, born_within n U.accepted l m);
      others = λ n o. omega (arith, occurs_is n U (Journals.ended_by T es), s.at n, ⊎_elim (λ e. ap (λ m. born m U.accepted) e ∙ born_none U.accepted) (λ l. born_past n U.accepted l) o);
    }
