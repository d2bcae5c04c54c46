-- Each reason is of the cause at its place.
use Rattle.std.proofs.Common.{◌≡◌, ◌∙◌, ℕ, List, [], ◌∷◌, ◌++◌, ap, refl, Bool, true, false, not, ◌&&◌, ◌||◌, ◌==◌, nat_lt, nat_le, Option, Some, None, map}
use Rattle.std.specs.Prelude.{is_some, length, option_map}
use Rattle.std.specs.List.{list_any}
use Rattle.tr_sigset.specs.Signals.{is_real_time}
use Rattle.tr_wait.specs.Words.{asks_for}
use Rattle.tr_tracee.specs.declared.life.Life.{Life}
use Rattle.tr_tracee.specs.declared.life.Life.TheVariants as life
use Rattle.tr_tracee.specs.declared.life.Stop.{Stop}
use Rattle.tr_tracee.specs.declared.life.Stop.TheVariants as stop
use Rattle.tr_tracee.specs.declared.thread.Thread.{Thread}
use Rattle.tr_tracee.specs.Lives.{is_execing, is_free, is_in_event_stop, is_in_stop, is_leaving, is_live, message, serves_marks}
use Rattle.tr_tracee.specs.Threads.{has_mark, is_traced, is_tracee_of, seized}
use Rattle.tr_model.specs.declared.events.Event.{Event}
use Rattle.tr_model.specs.declared.events.Event.TheVariants as event
use Rattle.tr_model.specs.declared.replies.Refusal.{Refusal}
use Rattle.tr_model.specs.Causes as causes
use Rattle.tr_model.specs.StarterWaits.{led_groups}
use Rattle.tr_model.specs.Tables.{Table, group_of, is_dying, members, others_dead, thread_of}
use Rattle.tr_model.specs.Takes.{can_take, is_empty}
use Rattle.tr_model.specs.Tracers.{tracees}
use Rattle.tr_reasons.specs.declared.reasons.Reason.{Reason}
use Rattle.tr_reasons.specs.declared.reasons.Reason.TheVariants as reason
use Rattle.tr_reasons.specs.Reasons.{AreOfCauses, above_all_signals, first_reason, member_missing, no_siginfo, no_stopped_tracee, not_traceable, over_limit, own, reasons_of, refusal_of, told_if, thread_then, unless, unless_then}

-- the refusal of each reason
abbrev refusals : List (Option Reason) → List (Option Refusal)
refusals rs = map (option_map refusal_of) rs

-- Guards

of_unless : (b : Bool) (r : Reason) → option_map refusal_of (unless b r) ≡ causes.unless b (refusal_of r)
of_unless true r = refl
of_unless false r = refl

of_told_if : (b : Bool) (r : Reason) → option_map refusal_of (told_if b r) ≡ causes.refused_if b (refusal_of r)
of_told_if true r = refl
of_told_if false r = refl

-- two conditions with one refusal
of_both : (b c : Bool) (r q : Reason) → refusal_of q ≡ refusal_of r → option_map refusal_of (unless_then b r (unless c q)) ≡ causes.unless (b && c) (refusal_of r)
of_both true true r q same = refl
of_both true false r q same = ap Some same
of_both false c r q same = refl

of_both_not : (b c : Bool) (r q : Reason) → refusal_of q ≡ refusal_of r → option_map refusal_of (unless_then b r (told_if c q)) ≡ causes.unless (b && not c) (refusal_of r)
of_both_not true true r q same = ap Some same
of_both_not true false r q same = refl
of_both_not false c r q same = refl

of_either : (b c : Bool) (r q : Reason) → refusal_of q ≡ refusal_of r → option_map refusal_of (unless_then (not b) r (told_if c q)) ≡ causes.refused_if (b || c) (refusal_of r)
of_either true c r q same = refl
of_either false true r q same = ap Some same
of_either false false r q same = refl

-- three conditions with one refusal
of_three : (b c d : Bool) (r q p : Reason) → refusal_of q ≡ refusal_of r → refusal_of p ≡ refusal_of r →
    option_map refusal_of (unless_then b r (unless_then c q (told_if d p))) ≡ causes.unless (b && c && not d) (refusal_of r)
of_three true true true r q p same same_too = ap Some same_too
of_three true true false r q p same same_too = refl
of_three true false d r q p same same_too = ap Some same
of_three false c d r q p same same_too = refl

of_member : (g id : ℕ) (t : Option Thread) → option_map refusal_of (member_missing g id t) ≡ causes.unless (causes.is_in g t) (refusal_of (reason.NoThread id))
of_member g id None = refl
of_member g id (Some t) = of_unless (t.group == g) (reason.OfAnotherGroup id)

of_siginfo : (id : ℕ) (l : Life) → option_map refusal_of (no_siginfo id l) ≡ causes.no_siginfo l
of_siginfo id (life.InStop s) = at s
  where
    at : (s : Stop) → option_map refusal_of (no_siginfo id (life.InStop s)) ≡ causes.no_siginfo (life.InStop s)
    at (stop.Signal i came) = refl
    at (stop.Group s) = refl
    at _ = refl
of_siginfo id _ = refl

-- reasons that are asked of a thread
of_thread : (id : ℕ) (t : Option Thread) (reasons : Thread → List (Option Reason)) (whys : Thread → List (Option Refusal)) →
    ((t : Thread) → refusals (reasons t) ≡ whys t) → refusals (thread_then id t reasons) ≡ causes.thread_then t whys
of_thread id None reasons whys h = refl
of_thread id (Some t) reasons whys h = h t

of_own : (T : Table) (t : Thread) → refusals (own T t) ≡ causes.script T t
of_own T t =
    λ i. of_both_not (is_free t.life) t.pausing (reason.NotRunning t.id) (reason.Pausing t.id) refl i
    ∷ of_either (has_mark t) (can_take T t) (reason.HasMark t.id) (reason.MayTake t.id) refl i ∷ []

of_own_then : (T : Table) (t : Thread) (r : Option Reason) (why : Option Refusal) → option_map refusal_of r ≡ why → refusals (own T t ++ r ∷ []) ≡ causes.script T t ++ why ∷ []
of_own_then T t r why h = λ i. of_own T t i ++ h i ∷ []

of_send : (T : Table) (s : ℕ) (there : Option Reason) (why : Option Refusal) → option_map refusal_of there ≡ why →
    refusals (above_all_signals s ∷ there ∷ over_limit T s ∷ []) ≡ causes.no_signal s ∷ why ∷ causes.queue_full T s ∷ []
of_send T s there why h =
    λ i. of_told_if (nat_lt 64 s) (reason.NoSignal s) i ∷ h i
    ∷ of_told_if (is_real_time s && nat_le T.limit (length T.waiting)) (reason.QueueFull T.limit) i ∷ []

of_stopped : (a : ℕ) (t : Thread) → option_map refusal_of (no_stopped_tracee a t) ≡ causes.cause_unless_stopped a t
of_stopped a t = of_both (is_tracee_of a t) (is_in_stop t.life) (reason.NotTracee t.id) (reason.NotStopped t.id) refl

of_stopped_then : (a : ℕ) (t : Thread) (r : Option Reason) (why : Option Refusal) → option_map refusal_of r ≡ why →
    refusals (no_stopped_tracee a t ∷ r ∷ []) ≡ causes.cause_unless_stopped a t ∷ why ∷ []
of_stopped_then a t r why h = λ i. of_stopped a t i ∷ h i ∷ []

of_traceable : (T : Table) (t : Thread) → refusals (not_traceable T t ∷ []) ≡ causes.traceable T t ∷ []
of_traceable T t =
    λ i. of_three (not (is_traced t)) (is_live t.life) (is_dying T t.group) (reason.Traced t.id) (reason.Ended t.id) (reason.GroupEnding t.group) refl refl i ∷ []

-- Events

pub each : (T : Table) (a : ℕ) (e : Event) → refusals (reasons_of T a e) ≡ causes.causes T a e
each T a (event.Kill g s) = of_send T s _ _ (of_unless (is_some (group_of T g)) (reason.NoGroup g))
each T a (event.Tgkill g id s) = of_send T s _ _ (of_member g id (thread_of T id))
each T a (event.Sigqueue g s v) = of_send T s _ _ (of_unless (is_some (group_of T g)) (reason.NoGroup g))
each T a (event.Mask id set) = of_thread id (thread_of T id) _ _ (of_own T)
each T a (event.SetAction id s how) = of_thread id (thread_of T id) _ _ (λ t. of_own_then T t _ _ (of_told_if (s == 0 || s == 9 || s == 19 || nat_lt 64 s) (reason.FixedAction s)))
each T a (event.Pause id) = of_thread id (thread_of T id) _ _ (of_own T)
each T a (event.Take id) = of_thread id (thread_of T id) _ _ (λ t. λ i. of_unless (is_free t.life) (reason.NotRunning t.id) i ∷ of_told_if (has_mark t) (reason.HasMark t.id) i ∷ [])
each T a (event.TakeAny g) = λ i. of_unless (is_some (group_of T g)) (reason.NoGroup g) i ∷ []
each T a (event.Halt id) = of_thread id (thread_of T id) _ _ (λ t. λ i. of_both t.stop_mark (serves_marks t.life) (reason.NoGroupStop t.id) (reason.NotServing t.id) refl i ∷ [])
each T a (event.Trap id) = of_thread id (thread_of T id) _ _ (λ t. λ i. of_both (t.trap_mark || t.note_mark) (serves_marks t.life) (reason.NoTrap t.id) (reason.NotServing t.id) refl i ∷ [])
each T a (event.Die id) = of_thread id (thread_of T id) _ _ (λ t. λ i. of_unless (is_leaving t.life) (reason.NotLeaving t.id) i ∷ [])
each T a (event.CloneThread id) =
    of_thread id (thread_of T id) _ _ (λ t. of_own_then T t _ _ (of_either (nat_le 1024 (length T.threads)) (nat_le 64 (length (members T t.group))) reason.TableFull (reason.GroupFull t.group) refl))
each T a (event.Exec id) = of_thread id (thread_of T id) _ _ (of_own T)
each T a (event.Finish id) = of_thread id (thread_of T id) _ _ (λ t. λ i. of_both (is_execing t.life) (others_dead T t) (reason.NotExecing t.id) (reason.OthersAlive t.id) refl i ∷ [])
each T a (event.Exit id code) = of_thread id (thread_of T id) _ _ (of_own T)
each T a (event.ExitGroup id code) = of_thread id (thread_of T id) _ _ (of_own T)
each T a (event.Attach id) = of_thread id (thread_of T id) _ _ (of_traceable T)
each T a (event.Seize id o) = of_thread id (thread_of T id) _ _ (of_traceable T)
each T a (event.Interrupt id) =
    of_thread id (thread_of T id) _ _
    (λ t. λ i. of_both (is_tracee_of a t) (is_live t.life) (reason.NotTracee t.id) (reason.TraceeEnded t.id) refl i ∷ of_unless (seized t.trace) (reason.NotSeized t.id) i ∷ [])
each T a (event.Cont id s) = of_thread id (thread_of T id) _ _ (λ t. of_stopped_then a t _ _ (of_told_if (nat_lt 64 s) (reason.NoRestartSignal s)))
each T a (event.Listen id) =
    of_thread id (thread_of T id) _ _ (λ t. of_stopped_then a t _ _ (of_both (seized t.trace) (is_in_event_stop t.life) (reason.NotSeized t.id) (reason.NoEventStop t.id) refl))
each T a (event.Detach id s) = of_thread id (thread_of T id) _ _ (λ t. of_stopped_then a t _ _ (of_told_if (nat_lt 64 s) (reason.NoRestartSignal s)))
each T a (event.SetOptions id o) = of_thread id (thread_of T id) _ _ (λ t. λ i. of_stopped a t i ∷ [])
each T a (event.EventMessage id) = of_thread id (thread_of T id) _ _ (λ t. of_stopped_then a t _ _ (of_unless (is_some (message t.life)) (reason.NoMessage t.id)))
each T a (event.SignalInfo id) = of_thread id (thread_of T id) _ _ (λ t. of_stopped_then a t _ _ (of_siginfo t.id t.life))
each T a event.TracerExit = refl
each T a (event.Wait which) = λ i. of_unless (list_any (λ t. asks_for which t.id) (tracees T a)) (reason.NoTracee a) i ∷ []
each T a (event.StarterWait which flags) = λ i. of_both_not (a == 1) (is_empty (led_groups T which)) (reason.NotStarter a) reason.NoChild refl i ∷ []

-- The first

of_first : (rs : List (Option Reason)) → option_map refusal_of (first_reason rs) ≡ causes.first_cause (refusals rs)
of_first [] = refl
of_first (None ∷ rs) = of_first rs
of_first (Some r ∷ rs) = refl

pub of_causes : AreOfCauses
of_causes = record { each = each; first = λ T a e. of_first (reasons_of T a e) ∙ ap causes.first_cause (each T a e) }
