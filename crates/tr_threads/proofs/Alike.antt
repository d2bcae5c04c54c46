-- What leaves a thread to stand as before, and what that leaves of what is kept beside it.
use Rattle.std.proofs.Common.{◌≡◌, ◌∙◌, ◌&&◌, Bool, true, false, ℕ, None, if◌then◌else◌, is_some, not, refl, ap, sym}
use Rattle.tr_sigset.specs.Sets.{word_of}
use Rattle.tr_tracee.specs.declared.life.Life.{Life}
use Rattle.tr_tracee.specs.declared.life.Life.TheVariants as life
use Rattle.tr_tracee.specs.declared.life.Stop.{Stop}
use Rattle.tr_tracee.specs.declared.life.Stop.TheVariants as stop
use Rattle.tr_tracee.specs.declared.thread.Thread.{Thread}
use Rattle.tr_tracee.specs.Lives.{is_dead, is_live}
use Rattle.tr_tracee.specs.Marks.{cont_noted_life, continued_life, paused, stopped_life}
use Rattle.tr_tracee.specs.Stops.{entered_as, interrupted, restarted, restarted_life}
use Rattle.tr_tracee.specs.Threads.{is_traced, tracer_of}
use Rattle.tr_threads.specs.Alike.{StandAlike}
use Rattle.tr_threads.specs.Changes.{continued_by, thread_changed_by}
use Rattle.tr_threads.specs.Rosters.{CountAlike, HaveSameWords}
use Rattle.tr_threads.specs.Rows.{blocked_word, runnable_word}
use Rattle.tr_threads.specs.Tracing.{tracer, waiter}
use Rattle.tr_threads.specs.Waits.{is_stray_death, is_untraced_death}
use Rattle.tr_threads.specs.declared.thread_changes.ThreadChange.TheVariants as change

-- the changes of marks

live_stopped : (l : Life) → is_live l ≡ is_live (stopped_life l)
live_stopped life.Free = refl
live_stopped _ = refl

dead_stopped : (l : Life) → is_dead l ≡ is_dead (stopped_life l)
dead_stopped life.Free = refl
dead_stopped _ = refl

live_continued : (l : Life) → is_live l ≡ is_live (continued_life l)
live_continued life.Stopped = refl
live_continued _ = refl

dead_continued : (l : Life) → is_dead l ≡ is_dead (continued_life l)
dead_continued life.Stopped = refl
dead_continued _ = refl

live_noted : (l : Life) → is_live l ≡ is_live (cont_noted_life l)
live_noted (life.InStop (stop.Signal i came)) = refl
live_noted _ = refl

dead_noted : (l : Life) → is_dead l ≡ is_dead (cont_noted_life l)
dead_noted (life.InStop (stop.Signal i came)) = refl
dead_noted _ = refl

pub pause_stands : (p : Bool) (t : Thread) → StandAlike t (paused p t)
pause_stands p t = record { mask = refl; live = refl; dead = refl; trace = refl; leader = refl }

pub mark_stands : (t : Thread) → StandAlike t (thread_changed_by change.Mark t)
mark_stands t = record { mask = refl; live = refl; dead = refl; trace = refl; leader = refl }

pub join_stands : (t : Thread) → StandAlike t (thread_changed_by change.Join t)
join_stands t = record { mask = refl; live = refl; dead = refl; trace = refl; leader = refl }

pub halt_stands : (t : Thread) → StandAlike t (thread_changed_by change.Halt t)
halt_stands t = record { mask = refl; live = live_stopped t.life; dead = dead_stopped t.life; trace = refl; leader = refl }

pub continue_stands : (in_effect : Bool) (t : Thread) → StandAlike t (continued_by in_effect t)
continue_stands true t = record { mask = refl; live = live_noted t.life ∙ live_continued (cont_noted_life t.life); dead = dead_noted t.life ∙ dead_continued (cont_noted_life t.life); trace = refl; leader = refl }
continue_stands false t = record { mask = refl; live = live_noted t.life; dead = dead_noted t.life; trace = refl; leader = refl }

-- a live thread enters a stop and stays live, or leaves one

live_not_dead : (l : Life) → is_live l ≡ true → false ≡ is_dead l
live_not_dead (life.Dead e) h = cc
live_not_dead _ h = refl

live_restarted : (l : Life) → is_live l ≡ true → is_live l ≡ is_live (restarted_life l)
live_restarted (life.InStop (stop.Exit w)) h = cc
live_restarted (life.InStop (stop.Signal i came)) h = refl
live_restarted (life.InStop (stop.Group g)) h = refl
live_restarted (life.InStop (stop.Clone n)) h = refl
live_restarted (life.InStop (stop.Exec n)) h = refl
live_restarted (life.InStop (stop.Event e)) h = refl
live_restarted _ h = refl

dead_restarted : (l : Life) → is_live l ≡ true → is_dead l ≡ is_dead (restarted_life l)
dead_restarted (life.InStop (stop.Exit w)) h = refl
dead_restarted (life.InStop (stop.Signal i came)) h = refl
dead_restarted (life.InStop (stop.Group g)) h = refl
dead_restarted (life.InStop (stop.Clone n)) h = refl
dead_restarted (life.InStop (stop.Exec n)) h = refl
dead_restarted (life.InStop (stop.Event e)) h = refl
dead_restarted _ h = refl

pub enter_stands : (s : Stop) (n : ℕ) (t : Thread) → is_live t.life ≡ true → is_live (life.InStop s) ≡ true → StandAlike t (entered_as n s t)
enter_stands s n t h k = record { mask = refl; live = h ∙ sym k; dead = sym (live_not_dead t.life h); trace = refl; leader = refl }

pub restart_stands : (t : Thread) → is_live t.life ≡ true → StandAlike t (restarted t)
restart_stands t h = record { mask = refl; live = live_restarted t.life h; dead = dead_restarted t.life h; trace = refl; leader = refl }

pub interrupt_stands : (t : Thread) → StandAlike t (interrupted t)
interrupt_stands t = record { mask = refl; live = refl; dead = refl; trace = refl; leader = refl }

-- what stays

module _ (t u : Thread) (a : StandAlike t u) where
  pub blocks_alike : blocked_word t ≡ blocked_word u
  blocks_alike = λ i. if a.live i then word_of (a.mask i) else 0

  pub traced_by_same : tracer t ≡ tracer u
  traced_by_same = λ i. tracer_of (a.trace i)

  -- and what does where the one has a report and the other has one too
  pub waited_by_same : is_some t.report ≡ is_some u.report → waiter t ≡ waiter u
  waited_by_same r = λ i. if r i then tracer_of (a.trace i) else None

  pub death_alike : is_some t.report ≡ is_some u.report → is_untraced_death t ≡ is_untraced_death u
  death_alike r = λ i. a.dead i && (not (is_some (a.trace i)) && r i)

  pub stray_alike : is_some t.report ≡ is_some u.report → is_stray_death t ≡ is_stray_death u
  stray_alike r = λ i. death_alike r i && not (a.leader i)

-- and where the two differ in a report alone

module _ (t u : Thread) (e : u ≡ record t { report = u.report }) where
  pub words_by_report : HaveSameWords t u
  words_by_report = record { blocked = sym (ap blocked_word e); runnable = sym (ap runnable_word e) }

  pub counts_by_report : CountAlike t u
  counts_by_report = record { live = sym (ap (λ (x : Thread). is_live x.life) e); dead = sym (ap (λ (x : Thread). is_dead x.life) e); traced = sym (ap is_traced e); marked = sym (ap (λ (x : Thread). x.stop_mark) e) }
