-- Changes of a thread's or a group's record that no law minds.
use Rattle.std.proofs.Common.{◌≡◌, ℕ, true, false, Some, None, Option, refl, Bool, ◌==◌, ◌⊎◌, inl, inr, sym, true≢false, ap, ◌∙◌, if◌then◌else◌}
use Rattle.std.proofs.lemmas.Bool.{or_left, or_right}
use Rattle.std.proofs.lemmas.Option.{none-some}
use Rattle.tr_tracee.specs.declared.life.End.{End}
use Rattle.tr_tracee.specs.declared.life.Life.{Life}
use Rattle.tr_tracee.specs.declared.life.Life.TheVariants as life
use Rattle.tr_tracee.specs.declared.thread.Options.{Options}
use Rattle.tr_sigset.specs.declared.sets.SigSet.{SigSet}
use Rattle.tr_tracee.specs.declared.life.Stop.TheVariants as stop
use Rattle.tr_tracee.specs.declared.thread.Thread.{Thread}
use Rattle.tr_tracee.specs.declared.thread.Trace.{Trace}
use Rattle.tr_model.specs.declared.rows.Group.{Group}
use Rattle.tr_model.specs.Moves.{Work}
use Rattle.tr_tracee.specs.Lives.{held}
use Rattle.tr_tracee.specs.Lives
use Rattle.tr_tracee.specs.Marks
use Rattle.tr_tracee.specs.Threads
use Rattle.tr_tracee.specs.Ends as TraceeEnds
use Rattle.tr_tracee.specs.Stops as TraceeStops
use Rattle.tr_model.specs.Moves

-- A change of a thread's record that no law minds: id and group stay, an instance that it held it holds or gives up, a
-- report it keeps with its tracer or gives up, and if it was told to leave, or dead, it is.
pub record Calm (t u : Thread) : Type 0 where
  pub id : u.id ≡ t.id
  pub group : u.group ≡ t.group
  pub holds : (held u.life ≡ None) ⊎ (held u.life ≡ held t.life)
  pub reports : (u.report ≡ None) ⊎ ((u.report ≡ t.report) × (Threads.tracer_of u.trace ≡ Threads.tracer_of t.trace))
  pub told : Lives.is_told t.life ≡ true → Lives.is_told u.life ≡ true

-- It also ends no instance and no stop.
pub record Tame (t u : Thread) : Type 0 where
  pub calm : Calm t u
  pub holds : held u.life ≡ held t.life
  pub stops : Lives.is_in_stop t.life ≡ true → Lives.is_in_stop u.life ≡ true
  pub stays : (a : ℕ) → Lives.is_in_stop t.life ≡ true → Threads.tracer_of t.trace ≡ Some a → (Lives.is_in_stop u.life ≡ true) × (Threads.tracer_of u.trace ≡ Some a)

pub record CalmGroup (x y : Group) : Type 0 where
  pub tgid : y.tgid ≡ x.tgid
  pub note : (y.note ≡ None) ⊎ (y.note ≡ x.note)

-- Tame changes

-- marks, masks and the like: life, trace and report stay
pub aside : (t u : Thread) → u.id ≡ t.id → u.group ≡ t.group → u.life ≡ t.life → u.report ≡ t.report → u.trace ≡ t.trace → Tame t u
aside t u i g l r c =
    record {
      calm = record { id = i; group = g; holds = inr (ap held l); reports = inr (r, ap Threads.tracer_of c); told = λ h. ap Lives.is_told l ∙ h };
      holds = ap held l;
      stops = λ h. ap Lives.is_in_stop l ∙ h;
      stays = λ a h k. (ap Lives.is_in_stop l ∙ h, ap Threads.tracer_of c ∙ k);
    }

-- a change of life that ends nothing
pub record TameLife (l m : Life) : Type 0 where
  pub holds : held m ≡ held l
  pub told : Lives.is_told l ≡ true → Lives.is_told m ≡ true
  pub stays : Lives.is_in_stop l ≡ true → Lives.is_in_stop m ≡ true

pub by_life : (t u : Thread) → u.id ≡ t.id → u.group ≡ t.group → TameLife t.life u.life → u.report ≡ t.report → u.trace ≡ t.trace → Tame t u
by_life t u i g l r c =
    record {
      calm = record { id = i; group = g; holds = inr l.holds; reports = inr (r, ap Threads.tracer_of c); told = l.told };
      holds = l.holds;
      stops = l.stays;
      stays = λ a h k. (l.stays h, ap Threads.tracer_of c ∙ k);
    }

same_life : (l : Life) → TameLife l l
same_life l = record { holds = refl; told = λ h. h; stays = λ h. h }

-- from a life that is neither told nor in a stop and holds nothing
plain : (l m : Life) → held m ≡ held l → Lives.is_told l ≡ false → Lives.is_in_stop l ≡ false → TameLife l m
plain l m h t s = record { holds = h; told = λ e. absurd (true≢false (sym e ∙ t)); stays = λ e. absurd (true≢false (sym e ∙ s)) }

choose : (b : Bool) (t u : Thread) → Tame t u → Tame t (if b then u else t)
choose true t u h = h
choose false t u h = aside t t refl refl refl refl refl

pub tame_only : (id : ℕ) (f : Thread → Thread) → ((t : Thread) → Tame t (f t)) → (t : Thread) → Tame t (Threads.at_thread id f t)
tame_only id f h t = choose (t.id == id) t (f t) (h t)

pub tame_throughout : (g : ℕ) (f : Thread → Thread) → ((t : Thread) → Tame t (f t)) → (t : Thread) → Tame t (Threads.at_group g f t)
tame_throughout g f h t = choose (t.group == g) t (f t) (h t)

stopped_tame : (l : Life) → TameLife l (Marks.stopped_life l)
stopped_tame life.Free = plain _ _ refl refl refl
stopped_tame l = same_life _

continued_tame : (l : Life) → TameLife l (Marks.continued_life l)
continued_tame life.Stopped = plain _ _ refl refl refl
continued_tame _ = same_life _

cont_noted_tame : (l : Life) → TameLife l (Marks.cont_noted_life l)
cont_noted_tame (life.InStop (stop.Signal i came)) = record { holds = refl; told = λ h. h; stays = λ h. h }
cont_noted_tame (life.InStop _) = same_life _
cont_noted_tame _ = same_life _

leaving_tame : (s : End) (l : Life) → TameLife l (TraceeEnds.leaving_life s l)
leaving_tame s life.Free = plain _ _ refl refl refl
leaving_tame s _ = same_life _

dead_or_not : (s : End) (told : Bool) → TameLife (life.Leaving s told) (if told then life.Dead s else life.Leaving s told)
dead_or_not s true = record { holds = refl; told = λ h. refl; stays = λ h. h }
dead_or_not s false = same_life _

dead_tame : (l : Life) → TameLife l (TraceeEnds.dead_life l)
dead_tame (life.Leaving s told) = dead_or_not s told
dead_tame _ = same_life _

execing_tame : (l : Life) → TameLife l (TraceeEnds.execing_life l)
execing_tame life.Free = plain _ _ refl refl refl
execing_tame _ = same_life _

execed_tame : (l : Life) → TameLife l (TraceeEnds.execed_life l)
execed_tame life.Execing = plain _ _ refl refl refl
execed_tame _ = same_life _

traced_stays : (o : Option Trace) (r : Trace) (a : ℕ) → Threads.tracer_of o ≡ Some a → Threads.tracer_of (TraceeStops.or_else o r) ≡ Some a
traced_stays None r a e = absurd (none-some a e)
traced_stays (Some x) r a e = e

options_stay : (o : Options) (r : Option Trace) → Threads.tracer_of (TraceeStops.with_options o r) ≡ Threads.tracer_of r
options_stay o None = refl
options_stay o (Some r) = refl

pub tame_masked : (set : SigSet) (t : Thread) → Tame t (Marks.masked set t)
tame_masked set t = aside _ _ refl refl refl refl refl

pub tame_paused : (b : Bool) (t : Thread) → Tame t (Marks.paused b t)
tame_paused b t = aside _ _ refl refl refl refl refl

pub tame_marked : (t : Thread) → Tame t (Marks.marked t)
tame_marked t = aside _ _ refl refl refl refl refl

pub tame_joining : (t : Thread) → Tame t (Marks.joining t)
tame_joining t = aside _ _ refl refl refl refl refl

pub tame_stopped : (t : Thread) → Tame t (Marks.stopped t)
tame_stopped t = by_life _ _ refl refl (stopped_tame t.life) refl refl

pub tame_noted : (t : Thread) → Tame t (Marks.noted t)
tame_noted t = aside _ _ refl refl refl refl refl

pub tame_continued : (t : Thread) → Tame t (Marks.continued t)
tame_continued t = by_life _ _ refl refl (continued_tame t.life) refl refl

pub tame_cont_noted : (t : Thread) → Tame t (Marks.cont_noted t)
tame_cont_noted t = by_life _ _ refl refl (cont_noted_tame t.life) refl refl

pub tame_traced_by : (r : Trace) (t : Thread) → Tame t (TraceeStops.traced_by r t)
tame_traced_by r t = record { calm = record { id = refl; group = refl; holds = inr refl; reports = inl refl; told = λ h. h }; holds = refl; stops = λ h. h; stays = λ a h k. (h, traced_stays t.trace r a k) }

pub tame_set_options : (o : Options) (t : Thread) → Tame t (TraceeStops.set_options o t)
tame_set_options o t = record { calm = record { id = refl; group = refl; holds = inr refl; reports = inr (refl, options_stay o t.trace); told = λ h. h }; holds = refl; stops = λ h. h; stays = λ a h k. (h, options_stay o t.trace ∙ k) }

pub tame_interrupted : (t : Thread) → Tame t (TraceeStops.interrupted t)
tame_interrupted t = aside _ _ refl refl refl refl refl

pub tame_unmarked : (t : Thread) → Tame t (TraceeEnds.unmarked t)
tame_unmarked t = aside _ _ refl refl refl refl refl

pub tame_leaving : (s : End) (t : Thread) → Tame t (TraceeEnds.leaving s t)
tame_leaving s t = by_life _ _ refl refl (leaving_tame s t.life) refl refl

pub tame_dead : (t : Thread) → Tame t (TraceeEnds.dead t)
tame_dead t = by_life _ _ refl refl (dead_tame t.life) refl refl

pub tame_told_nothing : (t : Thread) → Tame t (TraceeStops.without_report t)
tame_told_nothing t = record { calm = record { id = refl; group = refl; holds = inr refl; reports = inl refl; told = λ h. h }; holds = refl; stops = λ h. h; stays = λ a h k. (h, k) }

dead_not_in_stop : (l : Life) → Lives.is_dead l ≡ true → Lives.is_in_stop l ≡ true → ⊥
dead_not_in_stop (life.InStop s) e h = true≢false (sym e)
dead_not_in_stop (life.Dead s) e h = true≢false (sym h)
dead_not_in_stop life.Free e h = true≢false (sym h)
dead_not_in_stop life.Stopped e h = true≢false (sym h)
dead_not_in_stop life.Listening e h = true≢false (sym h)
dead_not_in_stop (life.Leaving s told) e h = true≢false (sym h)
dead_not_in_stop life.Execing e h = true≢false (sym h)

pub tame_released : (t : Thread) → Tame t (TraceeEnds.released t)
tame_released t = go (Lives.is_dead t.life) refl
  where
    go : (b : Bool) → Lives.is_dead t.life ≡ b → Tame t (if b then record t { trace = None; report = None } else t)
    go true e = record { calm = record { id = refl; group = refl; holds = inr refl; reports = inl refl; told = λ h. h }; holds = refl; stops = λ h. absurd (dead_not_in_stop t.life e h); stays = λ a h k. absurd (dead_not_in_stop t.life e h) }
    go false e = aside _ _ refl refl refl refl refl

pub tame_execing : (t : Thread) → Tame t (TraceeEnds.execing t)
tame_execing t = by_life _ _ refl refl (execing_tame t.life) refl refl

pub tame_execed : (t : Thread) → Tame t (TraceeEnds.execed t)
tame_execed t = by_life _ _ refl refl (execed_tame t.life) refl refl

-- Calm changes that end a stop

pub calm_same : (t : Thread) → Calm t t
calm_same t = record { id = refl; group = refl; holds = inr refl; reports = inr (refl, refl); told = λ h. h }

choose_calm : (b : Bool) (t u : Thread) → Calm t u → Calm t (if b then u else t)
choose_calm true t u h = h
choose_calm false t u h = calm_same t

pub calm_only : (id : ℕ) (f : Thread → Thread) → ((t : Thread) → Calm t (f t)) → (t : Thread) → Calm t (Threads.at_thread id f t)
calm_only id f h t = choose_calm (t.id == id) t (f t) (h t)

pub calm_throughout : (g : ℕ) (f : Thread → Thread) → ((t : Thread) → Calm t (f t)) → (t : Thread) → Calm t (Threads.at_group g f t)
calm_throughout g f h t = choose_calm (t.group == g) t (f t) (h t)

pub restarted_holds : (l : Life) → held (TraceeStops.restarted_life l) ≡ None
restarted_holds (life.InStop (stop.Exit w)) = refl
restarted_holds (life.InStop _) = refl
restarted_holds _ = refl

restarted_told : (l : Life) → Lives.is_told l ≡ true → Lives.is_told (TraceeStops.restarted_life l) ≡ true
restarted_told (life.InStop s) h = absurd (true≢false (sym h))
restarted_told _ h = h

pub calm_restarted : (t : Thread) → Calm t (TraceeStops.restarted t)
calm_restarted t = record { id = refl; group = refl; holds = inl (restarted_holds t.life); reports = inl refl; told = restarted_told t.life }

pub listening_holds : (l : Life) → held (TraceeStops.listening_life l) ≡ held l
listening_holds (life.InStop (stop.Event x)) = refl
listening_holds (life.InStop _) = refl
listening_holds _ = refl

listening_told : (l : Life) → Lives.is_told l ≡ true → Lives.is_told (TraceeStops.listening_life l) ≡ true
listening_told (life.InStop s) h = absurd (true≢false (sym h))
listening_told _ h = h

pub calm_listening : (t : Thread) → Calm t (TraceeStops.listening t)
calm_listening t = record { id = refl; group = refl; holds = inr (listening_holds t.life); reports = inl refl; told = listening_told t.life }

free_or_stopped : (b : Bool) → held (if b then life.Stopped else life.Free) ≡ None
free_or_stopped true = refl
free_or_stopped false = refl

untraced_holds : (b : Bool) (l : Life) → held (TraceeStops.untraced_life b l) ≡ held l
untraced_holds b life.Free = free_or_stopped b
untraced_holds b life.Listening = free_or_stopped b
untraced_holds b (life.Leaving s told) = refl
untraced_holds b _ = refl

untraced_told : (b : Bool) (l : Life) → Lives.is_told l ≡ true → Lives.is_told (TraceeStops.untraced_life b l) ≡ true
untraced_told b life.Free h = absurd (true≢false (sym h))
untraced_told b life.Listening h = absurd (true≢false (sym h))
untraced_told b (life.Leaving s told) h = refl
untraced_told b _ h = h

pub tame_untraced : (b : Bool) (t : Thread) → Tame t (TraceeStops.untraced b t)
tame_untraced b t = go (Lives.is_in_stop t.life) refl
  where
    go : (s : Bool) → Lives.is_in_stop t.life ≡ s → Tame t (if s then t else TraceeStops.without_trace b t)
    go true e = aside _ _ refl refl refl refl refl
    go false e =
        record {
          calm = record { id = refl; group = refl; holds = inr (untraced_holds b t.life); reports = inl refl; told = untraced_told b t.life };
          holds = untraced_holds b t.life;
          stops = λ h. absurd (true≢false (sym h ∙ e));
          stays = λ a h k. absurd (true≢false (sym h ∙ e));
        }

told_before : (l : Life) → Lives.is_dead l ≡ false → Lives.is_told l ≡ true → Lives.was_told l ≡ true
told_before (life.Leaving s told) d h = h
told_before (life.Dead s) d h = absurd (true≢false d)
told_before (life.InStop s) d h = absurd (true≢false (sym h))
told_before life.Free d h = absurd (true≢false (sym h))
told_before life.Stopped d h = absurd (true≢false (sym h))
told_before life.Listening d h = absurd (true≢false (sym h))
told_before life.Execing d h = absurd (true≢false (sym h))

pub calm_broken : (kill : Bool) (s : End) (t : Thread) → Calm t (TraceeEnds.begun_to_leave kill s t)
calm_broken kill s t = go (Lives.is_dead t.life) refl
  where
    go : (b : Bool) → Lives.is_dead t.life ≡ b → Calm t (if b then t else TraceeEnds.leaving_with kill s t)
    go true e = calm_same t
    go false e = record { id = refl; group = refl; holds = inl refl; reports = inl refl; told = λ h. or_left _ _ (or_right kill _ (told_before t.life e h)) }

choose_other : (b : Bool) (t u : Thread) → Calm t u → Calm t (if b then t else u)
choose_other true t u h = calm_same t
choose_other false t u h = h

pub calm_broken_by_exec : (id : ℕ) (s : End) (t : Thread) → Calm t (TraceeEnds.begun_to_leave_by_exec id s t)
calm_broken_by_exec id s t = choose_other (t.id == id) t _ (calm_broken false (TraceeEnds.own_end s t.life) t)

-- Calm changes of groups

choose_group : (b : Bool) (x y : Group) → CalmGroup x y → CalmGroup x (if b then y else x)
choose_group true x y h = h
choose_group false x y h = record { tgid = refl; note = inr refl }

pub calm_group : (g : ℕ) (f : Group → Group) → ((x : Group) → CalmGroup x (f x)) → (x : Group) → CalmGroup x (Moves.only_group g f x)
calm_group g f h x = choose_group (x.tgid == g) x (f x) (h x)

pub with_note : (f : Group → Group) → ((x : Group) → (f x).tgid ≡ x.tgid) → ((x : Group) → (f x).note ≡ x.note) → (x : Group) → CalmGroup x (f x)
with_note f t n x = record { tgid = t x; note = inr (n x) }

pub without_note : (f : Group → Group) → ((x : Group) → (f x).tgid ≡ x.tgid) → ((x : Group) → (f x).note ≡ None) → (x : Group) → CalmGroup x (f x)
without_note f t n x = record { tgid = t x; note = inl (n x) }
