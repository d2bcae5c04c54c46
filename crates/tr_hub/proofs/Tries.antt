-- A wait: how often it tries, and that without an entry it finds nothing.
use Rattle.std.proofs.Common.{◌≡◌, ◌∙◌, ℕ, zero, suc, ◌+◌, ◌-◌, ◌^◌, ◌≤◌, ◌<◌, Bool, true, false, None, Some, ap, arith, refl, subst, sym, min}
use Rattle.tr_model.specs.declared.events.Event.{Event}
use Rattle.tr_model.specs.declared.replies.Reply.{Reply}
use Rattle.tr_model.specs.declared.replies.Reply.TheVariants.{Nothing}
use Rattle.tr_model.specs.Causes.{cause_of, nothing_where, quiet_of}
use Rattle.tr_kernel.specs.States.{State, IsHistory, IsQuiet}
use Rattle.tr_kernel.specs.declared.answers.Answer.{Answer}
use Rattle.tr_kernel.specs.declared.answers.Answer.TheVariants.{Entered, Read, Refused}
use Rattle.tr_hub.specs.declared.waits.WaitCall.{WaitCall}
use Rattle.tr_hub.specs.declared.waits.WaitCall.TheVariants.{Tracer, Starter}
use Rattle.tr_kernel.specs.Answers.{IfRead}
use Rattle.tr_hub.specs.Kept.{IsPossible}
use Rattle.tr_hub.specs.Seats.{HasTried, SeatState, event_of, seat_after, seat_tried}

is_nothing : (b : Bool) (r : Reply) → nothing_where b ≡ Some r → r ≡ Nothing
is_nothing true r h = cc
is_nothing false r h = absurd cc

quiet_wait : (old new : State) (actor : ℕ) (what : WaitCall) (r : Reply) → IsQuiet old actor (event_of what) r new → r ≡ Nothing
quiet_wait old new actor (Tracer which) r q = is_nothing _ r q.quiet
quiet_wait old new actor (Starter which flags) r q = is_nothing _ r q.quiet

pub found_nothing : (old new : State) (actor : ℕ) (what : WaitCall) (event : Event) (answer : Answer) (reply : Reply) → answer ≡ Read reply → event ≡ event_of what
    → IfRead answer (λ r. IsQuiet old actor event r new) → answer ≡ Read Nothing
found_nothing old new actor what event (Entered receipt) reply is e h = cc
found_nothing old new actor what event (Read r) reply is e h = ap (λ (x : Reply). Read x) (quiet_wait old new actor what r (subst (λ (x : Event). IsQuiet old actor x r new) e h))
found_nothing old new actor what event (Refused why) reply is e h = cc

is_possible : (old new : State) (actor : ℕ) (what : WaitCall) (r : Reply) → IsQuiet old actor (event_of what) r new → IsHistory new → IsPossible actor (event_of what) (Read Nothing)
is_possible old new actor what r q history =
    let quiet = subst (λ (x : Reply). quiet_of old.table actor (event_of what) ≡ Some x) (quiet_wait old new actor what r q) q.quiet in
    record {
      kernel = new;
      history = history;
      answered = subst (λ (k : State). (cause_of k.table actor (event_of what) ≡ None) × (quiet_of k.table actor (event_of what) ≡ Some Nothing)) (sym q.same) (q.no_cause, quiet);
    }

pub nothing_is_possible : (old new : State) (actor : ℕ) (what : WaitCall) (event : Event) (answer : Answer) (reply : Reply) → answer ≡ Read reply → event ≡ event_of what
    → IfRead answer (λ r. IsQuiet old actor event r new) → IsHistory new → IsPossible actor (event_of what) (Read Nothing)
nothing_is_possible old new actor what event (Entered receipt) reply is e h history = absurd cc
nothing_is_possible old new actor what event (Read r) reply is e h history = is_possible old new actor what r (subst (λ (x : Event). IsQuiet old actor x r new) e h) history
nothing_is_possible old new actor what event (Refused why) reply is e h history = absurd cc

-- How often it tries

-- so many tries found nothing
pub record Waits (turn : ℕ) (old now : SeatState) : Type 0 where
  pub none : turn ≡ 0 → now ≡ old
  pub seat : 0 < turn → now ≡ seat_tried turn old (Read Nothing)

pub waits_none : (old : SeatState) → Waits 0 old old
waits_none old = record { none = λ h. refl; seat = λ h. absurd (omega (arith, h)) }

counted : (calls n : ℕ) → min (min (calls + n) (2 ^ 64 - 1) + 1) (2 ^ 64 - 1) ≡ min (calls + (n + 1)) (2 ^ 64 - 1)
counted calls n = omega arith

try_after : (n : ℕ) (old : SeatState) (answer : Answer) → seat_after (seat_tried n old (Read Nothing)) answer ≡ seat_tried (n + 1) old answer
try_after n old (Entered r) = ap (λ (c : ℕ). record { actor = old.actor; calls = c; entries = old.entries + 1; accepted = old.accepted + r.accepted }) (counted old.calls n)
try_after n old (Read reply) = ap (λ (c : ℕ). record { actor = old.actor; calls = c; entries = old.entries; accepted = old.accepted }) (counted old.calls n)
try_after n old (Refused why) = ap (λ (c : ℕ). record { actor = old.actor; calls = c; entries = old.entries; accepted = old.accepted }) (counted old.calls n)

one_more : (n : ℕ) (old now : SeatState) (answer : Answer) → Waits n old now → seat_after now answer ≡ seat_tried (n + 1) old answer
one_more zero old now answer w = ap (λ (s : SeatState). seat_after s answer) (w.none refl)
one_more (suc n) old now answer w = ap (λ (s : SeatState). seat_after s answer) (w.seat (omega arith)) ∙ try_after (suc n) old answer

pub waits_on : (n : ℕ) (old now new : SeatState) (answer : Answer) → Waits n old now → answer ≡ Read Nothing → new ≡ seat_after now answer → Waits (n + 1) old new
waits_on n old now new answer w is h = record {
  none = λ e. absurd (omega (arith, e));
  seat = λ some. h ∙ (one_more n old now answer w ∙ ap (seat_tried (n + 1) old) is);
}

pub tried_last : (turns n : ℕ) (old now new : SeatState) (answer : Answer) → Waits n old now → n < turns → new ≡ seat_after now answer → (answer ≡ Read Nothing → ⊥) → HasTried turns old new answer
tried_last turns n old now new answer w more h found = record {
  tries = n + 1;
  within = omega arith;
  some = λ some. omega arith;
  all = λ e. absurd (found e);
  none = λ e. absurd (omega (arith, e));
  seat = λ some. h ∙ one_more n old now answer w;
}

pub tried_all : (turns n : ℕ) (old now : SeatState) → Waits n old now → turns ≤ n → n ≤ turns → HasTried turns old now (Read Nothing)
tried_all turns n old now w least most = record {
  tries = n;
  within = most;
  some = λ some. omega (arith, some);
  all = λ e. omega arith;
  none = w.none;
  seat = w.seat;
}
