-- What an entry ended isn't pending.
use Rattle.std.proofs.Common.{◌≡◌, ℕ, List, [], ◌∷◌, ◌++◌, true, false, Some, None, Option, refl, sym, subst, ap, ◌∙◌, Bool, ◌==◌, if◌then◌else◌, map, filter, true≢false, unwrap_or}
use Rattle.std.specs.Prelude.{flat_map}
use Rattle.std.proofs.lemmas.Option.{same_Some}
use Rattle.tr_pending.specs.declared.instance.Instance.{Instance}
use Rattle.tr_tracee.specs.declared.life.End.{End}
use Rattle.tr_tracee.specs.declared.life.End.TheVariants as end
use Rattle.tr_tracee.specs.declared.life.Stop.{Stop}
use Rattle.tr_tracee.specs.declared.life.Stop.TheVariants as stop
use Rattle.tr_tracee.specs.declared.thread.Thread.{Thread}
use Rattle.tr_tracee.specs.Lives
use Rattle.tr_tracee.specs.Stops as TraceeStops
use Rattle.tr_tracee.specs.Threads
use Rattle.tr_tracee.specs.Ends as TraceeEnds
use Rattle.tr_model.specs.Entries.{Entry}
use Rattle.tr_model.specs.declared.fates.Ending.{Ending}
use Rattle.tr_model.specs.declared.fates.Fate.{Fate}
use Rattle.tr_model.specs.declared.fates.Fate.TheVariants.{Pending, Flushed}
use Rattle.tr_model.specs.declared.replies.Reply.{Reply}
use Rattle.tr_model.specs.declared.rows.Waiting.{Waiting}
use Rattle.tr_model.specs.Deaths
use Rattle.tr_model.specs.Execs
use Rattle.tr_model.specs.Journals
use Rattle.tr_model.specs.Laws
use Rattle.tr_model.specs.Moves
use Rattle.tr_model.specs.Moves.{Work}
use Rattle.tr_model.specs.Steps
use Rattle.tr_model.specs.Tables.{Table, group_end, thread_of}
use Rattle.tr_model.proofs.Kept.{Kept, always-kept, any, any_of, is_pending}

abbrev pub AllLive : List Ending → Type 0
AllLive [] = Unit {0}
AllLive (e ∷ es) = (is_pending e.fate ≡ false) × AllLive es

all_live-append : (xs ys : List Ending) → AllLive xs → AllLive ys → AllLive (xs ++ ys)
all_live-append [] ys h k = k
all_live-append (x ∷ xs) ys h k = (h.0, all_live-append xs ys h.1 k)

endings_live : (fate : Fate) → is_pending fate ≡ false → (before after : Option Instance) → AllLive (Moves.ended_hold fate before after)
endings_live fate h None after = tt
endings_live fate h (Some i) None = (h, tt)
endings_live fate h (Some i) (Some j) = tt

ends_live : (fate : Fate) → is_pending fate ≡ false → (f : Thread → Thread) (ts : List Thread) → AllLive (flat_map (Moves.ended_by_change fate f) ts)
ends_live fate h f [] = tt
ends_live fate h f (t ∷ ts) = all_live-append (Moves.ended_by_change fate f t) (flat_map (Moves.ended_by_change fate f) ts) (endings_live fate h _ _) (ends_live fate h f ts)

waiting_live : (fate : Fate) → is_pending fate ≡ false → (qs : List Waiting) → AllLive (map (Moves.ending_of fate) qs)
waiting_live fate h [] = tt
waiting_live fate h (q ∷ qs) = (h, waiting_live fate h qs)

record Live (w : Work) : Type 0 where
  ended : AllLive w.ended

as_live : (w v : Work) → v.ended ≡ w.ended → Live w → Live v
as_live w v e l = record { ended = subst AllLive (sym e) l.ended }

more_live : (w v : Work) (xs : List Ending) → v.ended ≡ w.ended ++ xs → AllLive xs → Live w → Live v
more_live w v xs e h l = record { ended = subst AllLive (sym e) (all_live-append w.ended xs l.ended h) }

branch : (es : List Ending) (b : Bool) (x y : Work) → x.ended ≡ es → y.ended ≡ es → (if b then x else y).ended ≡ es
branch es true x y p q = p
branch es false x y p q = q

at_same : (id : ℕ) (move : Thread → Work → Work) → ((t : Thread) (w : Work) → (move t w).ended ≡ w.ended) → (w : Work) → (Moves.at id move w).ended ≡ w.ended
at_same id move h w = go (thread_of w.table id)
  where
    go : (o : Option Thread) → (Moves.on_thread o move w).ended ≡ w.ended
    go None = refl
    go (Some t) = h t w

pub entering_same : (s : Stop) (t : Thread) (w : Work) → (Moves.enter_if_allowed s t w).ended ≡ w.ended
entering_same s t w = branch w.ended (TraceeStops.may_enter t.life) _ w refl refl

held_same : (t : Thread) (o : Option Instance) (w : Work) → (Moves.on_instance o (Moves.holding t) w).ended ≡ w.ended
held_same t None w = refl
held_same t (Some i) w = branch w.ended (Lives.is_free t.life) _ w (entering_same (stop.Signal i false) t (Moves.pulled i w)) refl

hold_same : (id n : ℕ) (w : Work) → (Moves.hold id n w).ended ≡ w.ended
hold_same id n w = at_same id (λ t v. Moves.on_instance (Moves.instance_in w.table.waiting n) (Moves.holding t) v) (λ t v. held_same t (Moves.instance_in w.table.waiting n) v) w

death_live : (g : ℕ) (e : End) (kill : Bool) (w : Work) → Live w → Live (Deaths.begin_death g e kill w)
death_live g e kill w l = let f = Threads.at_group g (TraceeEnds.begun_to_leave kill (unwrap_or (group_end w.table g) e)) in more_live w (Deaths.begin_death g e kill w) (flat_map (Moves.ended_by_change Flushed f) w.table.threads) refl (ends_live Flushed refl f w.table.threads) l

moves_live : Kept any any_of Live
moves_live = record {
  alter = λ f h w l. as_live w (Moves.alter f w) refl l;
  resume = λ fate live t r w e l. more_live w (Moves.change_ending fate TraceeStops.restarted t w) _ refl (endings_live fate live _ _) l;
  listen = λ t r w e l. more_live w (Moves.change_ending Flushed TraceeStops.listening t w) _ refl (endings_live Flushed refl _ _) l;
  break_others = λ g id x w l. let f = Threads.at_group g (TraceeEnds.begun_to_leave_by_exec id (end.Exited 0)) in more_live w (Execs.break_others g id w) (flat_map (Moves.ended_by_change Flushed f) w.table.threads) refl (ends_live Flushed refl f w.table.threads) l;
  begin_death = death_live;
  kill_group = λ g w l. death_live g (end.Killed 9) true (Moves.tell_killed g w) (as_live w (Moves.tell_killed g w) refl l);
  enter = λ id s h w l. as_live w (Moves.enter id s w) (at_same id (Moves.enter_if_allowed s) (entering_same s) w) l;
  hold = λ id n w l. as_live w (Moves.hold id n w) (hold_same id n w) l;
  report_death = λ id e w l. as_live w (Moves.report_death id e w) (at_same id (Moves.report_dead e) (λ t v. branch v.ended (Lives.is_dead t.life) _ v refl refl) w) l;
  spawn = λ parent id mark w n l. as_live w (Moves.spawn parent id mark w) (at_same parent (Moves.spawned id mark) (λ t v. branch v.ended (Lives.is_free t.life) _ v refl refl) w) l;
  remove_dead = λ p w l. as_live w (Moves.remove_dead p w) refl l;
  take_place = λ id w l. as_live w (Moves.take_place id w) (at_same id Moves.taking_place (λ t v. branch v.ended _ _ v refl refl) w) l;
  regroup = λ f h w l. as_live w (Moves.regroup f w) refl l;
  note = λ g s w l. as_live w (Moves.note g s w) refl l;
  drop_empty = λ g w l. as_live w (Moves.drop_empty g w) refl l;
  enqueue = λ s i q w l. as_live w (Moves.enqueue s i q w) refl l;
  accept_as = λ fate live w l. more_live w (Moves.accept_as fate w) _ refl (live, tt) l;
  end_waiting = λ fate live p w l. more_live w (Moves.end_waiting fate p w) _ refl (waiting_live fate live (filter p w.table.waiting)) l;
}

pub ended_live : (T U : Table) (es : List Entry) (rs : List Reply) → Journals.Replay T es rs U → AllLive (Journals.ended_by T es)
ended_live T U [] [] r = tt
ended_live T U [] (x ∷ rs) r = absurd r
ended_live T U (e ∷ es) [] r = absurd r
ended_live T U (e ∷ es) (x ∷ rs) r =
    let l = always-kept Live moves_live T e r.1.choice (record { ended = tt }) in
    all_live-append (Steps.work_of T e).ended _ l.ended (ended_live (Steps.work_of T e).table U es rs (subst (λ M. Journals.Replay M es rs U) r.1.table r.2))

never_pending : (n : ℕ) (es : List Ending) → AllLive es → Journals.ended_as es n ≡ Some Pending → ⊥
never_pending n [] l q = cc
never_pending n (e ∷ es) l q = go (e.number == n) q (never_pending n es l.1)
  where
    go : (b : Bool) → (if b then Some e.fate else Journals.ended_as es n) ≡ Some Pending → (Journals.ended_as es n ≡ Some Pending → ⊥) → ⊥
    go true q later = true≢false (sym (ap is_pending (same_Some e.fate Pending q)) ∙ l.0)
    go false q later = later q

pub ended_is_not_pending : Laws.EndedIsNotPending
ended_is_not_pending T U es rs r n = never_pending n (Journals.ended_by T es) (ended_live T U es rs r)
