-- What a take that is due takes, and what the model makes of it.
use Rattle.std.proofs.Common.{Bor, rules, ◌≡◌, ◌∙◌, ℕ, true, false, Option, Some, None, IsSome, IfOk, Result, option_copied, refl, sym, ap, ap₂, subst}
use Rattle.std.proofs.lemmas.Bool.{true≢false}
use Rattle.std.proofs.lemmas.Option.{same_Some}
use Rattle.tr_pending.specs.declared.instance.Instance.{Instance}
use Rattle.tr_tracee.specs.declared.life.Stop.TheVariants as stop
use Rattle.tr_tracee.specs.declared.thread.Thread.{Thread}
use Rattle.tr_model.specs.declared.events.Event.TheVariants.{Take}
use Rattle.tr_model.specs.declared.rows.Waiting.{Waiting}
use Rattle.tr_model.specs.Journals.{IsSorted, queue_of, taken_by}
use Rattle.tr_model.specs.Moves.{Work, at, begin, enter, enter_if_allowed, hold, holding, instance_in, on_instance, on_thread, pulled}
use Rattle.tr_model.specs.Choices.{Choice, takes_instance}
use Rattle.tr_model.specs.Compare.{Permits}
use Rattle.tr_model.specs.Tables.{Table, thread_of}
use Rattle.tr_model.specs.Takes.{choices, take, take_numbered, with_number}
use Rattle.tr_model.proofs.Among.{some_found}
use Rattle.tr_queues.specs.Choices.{waiting_in}
use Rattle.tr_model.specs.declared.replies.Reply.{Reply}
use Rattle.tr_model.specs.GroupStops.{complete_group_stops}
use Rattle.tr_model.specs.Steps.{Outcome, number, takes}
use Rattle.tr_model.specs.Steps as Steps
use Rattle.tr_model.proofs.Kept.{itself}
use Rattle.tr_steps.specs.UnderWay.{ComesTo, UnderWay}
use Rattle.tr_signals.specs.Private.{Takes, take_outcome}
use Rattle.tr_signals.proofs.Chosen.{chosen_is}

-- A free thread that holds an instance enters its signal-delivery-stop

pub hold_is : (w : Work) (t : Thread) (i : Instance) → Takes w.table t i → hold t.id i.n w ≡ enter t.id (stop.Signal i false) (pulled i w)
hold_is w t i k =
    ap (λ o. on_thread o (λ t. on_instance (instance_in w.table.waiting i.n) (holding t)) w) k.there
    ∙ (ap (λ o. on_instance o (holding t) w) k.waits ∙ (rw k.free refl ∙ sym (ap (λ o. on_thread o (enter_if_allowed (stop.Signal i false)) (pulled i w)) k.there)))

-- What is admitted

pub record IsDue (T : Table) (id n : ℕ) : Type 0 where
  pub thread : Thread
  pub instance : Instance
  pub there : thread_of T id ≡ Some thread
  pub chosen : with_number n (choices T thread) ≡ Some instance

pub due_with : (T : Table) (id n : ℕ) → takes T (thread_of T id) n ≡ true → IsDue T id n
due_with T id n e = go (thread_of T id) refl e
  where
    go : (o : Option Thread) → thread_of T id ≡ o → takes T o n ≡ true → IsDue T id n
    go None f q = absurd (true≢false (sym q))
    go (Some t) f q = let i = some_found (with_number n (choices T t)) q in record { thread = t; instance = i.0; there = f; chosen = i.1 }

pub is_due : (T : Table) (a id n : ℕ) → Permits T a (Take id) (takes_instance n) → IsDue T id n
is_due T a id n p =
    let h = p.admitted in
    let same : n ≡ h.0 = ap (λ (c : Choice). number c.instance) h.1 in
    due_with T id n (subst (λ k. takes T (thread_of T id) k ≡ true) (sym same) h.2)

-- What the model makes of it

-- what the model says of the entry
abbrev pub numbered_outcome : Table → ℕ → ℕ → Outcome
numbered_outcome T id n = record { reply = Steps.took_reply T (thread_of T id) (instance_in T.waiting n); work = complete_group_stops (at id (take_numbered n) (begin T)) }

joined : (r q : Reply) (v w : Work) → r ≡ q → v ≡ w → ◌≡◌ {A = Outcome} (record { reply = r; work = v }) (record { reply = q; work = w })
joined r q v w e f = ap (λ (x : Reply). record { reply = x; work = v }) e ∙ ap (λ (x : Work). record { reply = q; work = x }) f

pub record Took (T : Table) (id n : ℕ) (t : Thread) (w : Waiting) : Type 0 where
  pub takes : Takes T t w.instance
  pub outcome : take_outcome T t w.instance ≡ numbered_outcome T id n
  pub queue : queue_of (taken_by T (thread_of T id) n) ≡ Some w.target

took_of : (T : Table) (id n : ℕ) (t : Thread) (w : Waiting) → IsSorted T.waiting → IsDue T id n → thread_of T id ≡ Some t → waiting_in T.waiting n ≡ Some w → Took T id n t w
took_of T id n t w s d e f =
    let b = chosen_is T d.thread n d.instance s d.chosen in
    let does : at id (take_numbered n) (begin T) ≡ take d.thread d.instance (begin T)
    = ap (λ o. on_thread o (take_numbered n) (begin T)) d.there ∙ ap (λ o. on_instance o (take d.thread) (begin T)) d.chosen in
    let row : Waiting = record { instance = d.instance; target = b.from } in
    let k : Took T id n d.thread row = record {
      takes = record { there = itself T.threads id d.thread d.there; free = b.free; waits = ap (instance_in T.waiting) b.number ∙ b.waits };
      outcome = joined _ _ _ _ (sym (ap₂ (Steps.took_reply T) d.there b.waits)) (ap complete_group_stops (sym does));
      queue = ap (λ o. queue_of (taken_by T o n)) d.there ∙ ap queue_of b.taken;
    } in
    subst (λ z. Took T id n z w) (same_Some d.thread t (sym d.there ∙ e)) (subst (λ z. Took T id n d.thread z) (same_Some row w (sym b.there ∙ f)) k)

-- What both takes do, with the answers of `find` and `waiting`

module _ {T U : Table} {id n : ℕ} (d : IsDue T id n) (here : U ≡ T) where
  pub finds_thread : (o : Option (Bor Thread)) → option_copied o ≡ thread_of U id → IsSome o
  finds_thread o e = let there : option_copied o ≡ Some d.thread = e ∙ (ap (λ V. thread_of V id) here ∙ d.there) in search rules

  pub finds_waiting : (o : Option (Bor Waiting)) → IsSorted U.waiting → option_copied o ≡ waiting_in U.waiting n → IsSome o
  finds_waiting o s e =
      let b = chosen_is T d.thread n d.instance (subst (λ V. IsSorted V.waiting) here s) d.chosen in
      let there : option_copied o ≡ Some (record { instance = d.instance; target = b.from }) = e ∙ (ap (λ V. waiting_in V.waiting n) here ∙ b.there) in
      search rules

  -- what is found is what the thread takes
  pub took : {t : Thread} {w : Waiting} → IsSorted U.waiting → thread_of U id ≡ Some t → waiting_in U.waiting n ≡ Some w → Took T id n t w
  took s e f =
      took_of T id n _ _ (subst (λ V. IsSorted V.waiting) here s) d (ap (λ V. thread_of V id) (sym here) ∙ e) (ap (λ V. waiting_in V.waiting n) (sym here) ∙ f)

-- a step that came to what the thread takes is the step of the entry
pub comes_as : {E : Type 0} {T : Table} {id n : ℕ} {t : Thread} {w : Waiting} (r : Result Reply E) (u : UnderWay) → Took T id n t w → IfOk r (ComesTo (take_outcome T t w.instance) (Some w.target) u)
    → IfOk r (ComesTo (numbered_outcome T id n) (queue_of (taken_by T (thread_of T id) n)) u)
comes_as {T = T} {id = id} {n = n} {t = t} {w = w} r u k h =
    subst (λ o. IfOk r (ComesTo o (queue_of (taken_by T (thread_of T id) n)) u)) k.outcome (subst (λ q. IfOk r (ComesTo (take_outcome T t w.instance) q u)) (sym k.queue) h)
